-- What waits of a file at the end of a run is in the outlook. The function of the law cites it.
use Rattle.std.proofs.Common.{◌≡◌, arith, Bool, true, false, ◌&&◌, inl, inr, List, [], ◌∷◌, refl, sym, ap, subst, ◌∙◌}
use Rattle.std.specs.List.{list_any}
use Rattle.std.proofs.lemmas.List.Folds.{list_any-append}
use Rattle.notify_types.specs.Event.{Timed}
use Rattle.notify_types.specs.declared.kind.EventKind.{EventKind}
use Rattle.notify_paths.specs.Path.{PathValue, path_eq}
use Rattle.debounce_model.specs.Cache.{Rules}
use Rattle.debounce_model.specs.Command.{CommandValue, ReplyValue}
use Rattle.debounce_model.specs.Due.{place_list, rest_after, rests}
use Rattle.debounce_model.specs.Kept.{has_first, has_rename, is_among, is_waiting, stands_for, tells_rename}
use Rattle.debounce_model.specs.Play.{accepted}
use Rattle.debounce_model.specs.Queues.{Queues, events_at}
use Rattle.debounce_model.specs.State.{State}
use Rattle.debounce_model.specs.Tick.{IsOutlook, due_of, state_places}
use Rattle.debounce_laws.proofs.BatchTests.{any-batch}
use Rattle.debounce_laws.proofs.KeptLemmas.{accepted-cons}
use Rattle.debounce_laws.proofs.KeptQueues.{found-rests}
use Rattle.debounce_laws.proofs.KeptSteps.{neither, step_effect, told_after}
use Rattle.debounce_laws.proofs.StateRuns.{StateRun, state_run}
use Rattle.debounce_laws.proofs.ToldQueues.{AreAllTold, or_true, told-none}
use Rattle.program_logic.specs.Config.Touched.{Touches}
use Rattle.program_logic.specs.Config.Reloads.{IsReadByEnd, IsReadOrWaits, RunsReadEachChangeByEnd}
use Rattle.program_logic.proofs.ConfigLemmas.ReadChanges.{each_change_is_read}
use Rattle.program_logic.proofs.ConfigLemmas.Touching.{among_touches, batch_decides}

-- no rename was accepted, of the first command and of the others
calm_parts : (c : CommandValue) (y : ReplyValue) (cs : List CommandValue) (ys : List ReplyValue)
    → has_rename (c ∷ cs) (y ∷ ys) ≡ false → (has_rename (c ∷ []) (y ∷ []) ≡ false) × (has_rename cs ys ≡ false)
calm_parts c y cs ys calm =
    neither (has_rename (c ∷ []) (y ∷ [])) (has_rename cs ys)
    (sym (list_any-append tells_rename (accepted (c ∷ []) (y ∷ [])) (accepted cs ys))
    ∙ ap (list_any tells_rename) (sym (accepted-cons c y cs ys)) ∙ calm)

-- after a run without renames all queues still told something
told_at_end : (s t : State) (cs : List CommandValue) (ys : List ReplyValue) → StateRun s cs ys t
    → AreAllTold s.queues → has_rename cs ys ≡ false → AreAllTold t.queues
told_at_end s t [] [] run told calm = subst AreAllTold (sym (ap (λ k. k.queues) run)) told
told_at_end s t [] (y ∷ ys) run told calm = absurd run
told_at_end s t (c ∷ cs) [] run told calm = absurd run
told_at_end s t (c ∷ cs) (y ∷ ys) (m, step, more) told calm =
    let parts = calm_parts c y cs ys calm in
    let after = told_after c y s.queues m.queues (step_effect s m c y step parts.0) told in
    told_at_end m t cs ys more after parts.1

-- if every event is due, nothing is left of a queue
rest_after-all : (xs : List Timed) → rest_after (λ x. true) xs ≡ []
rest_after-all [] = refl
rest_after-all (x ∷ xs) = rest_after-all xs

-- .. and no queue
rests-all : (queues : Queues) → rests (λ x. true) queues ≡ []
rests-all [] = refl
rests-all (e ∷ es) = rw (rest_after-all e.1) (rests-all es)

-- what waits for a change of the file is among what is emitted if every event is due
waits_in_places : (file : PathValue) (kind : EventKind) (queues : Queues) → AreAllTold queues
    → list_any (stands_for kind) (events_at queues file) ≡ true
    → is_among file kind (place_list (λ x. true) queues) ≡ true
waits_in_places file kind queues told waits =
    rw (rests-all queues) at (found-rests (λ x. true) queues file kind told waits)

-- .. so it is in the outlook
waits_in_outlook : (file : PathValue) (kind : EventKind) (s : State) (outlook : List Timed)
    → AreAllTold s.queues → IsOutlook s outlook → is_waiting file kind s ≡ true
    → is_among file kind outlook ≡ true
waits_in_outlook file kind s outlook told o waits =
    sym (any-batch stands (state_places (λ x. true) s) outlook o)
    ∙ list_any-append stands (due_of (λ x. true) s.rescan_slot) (place_list (λ x. true) s.queues)
    ∙ rw (waits_in_places file kind s.queues told waits) (or_true (list_any stands (due_of (λ x. true) s.rescan_slot)))
  where
    stands : Timed → Bool
    stands x = has_first (λ p. path_eq p file) x.event.paths && stands_for kind x

-- a change that is read or waits is read, at last by the outlook that has what waits
read_by_end : (file : PathValue) (kind : EventKind) (later : List CommandValue) (after : List ReplyValue)
    (s : State) (outlook : List Timed) → (is_waiting file kind s ≡ true → Touches file outlook)
    → IsReadOrWaits file kind later after s → IsReadByEnd file later after outlook
read_by_end file kind later after s outlook shown (inl reads) = inl reads
read_by_end file kind later after s outlook shown (inr (inl waits)) = inr (inl (shown waits))
read_by_end file kind later after s outlook shown (inr (inr away)) = inr (inr away)

-- so it is with each accepted change in a run without renames from where nothing waits
pub each_change_is_read_by_end : {C : Type 0} (r : Rules C) → RunsReadEachChangeByEnd r
each_change_is_read_by_end r = λ file s t commands replies outlook run none calm o.
    λ earlier later told after event now exists answer here there same tells.
    let all_told = told_at_end s.state t.state commands replies (state_run r s t commands replies run)
    (told-none s.state.queues (omega (arith, none))) calm in
    let found = waits_in_outlook file event.kind t.state outlook all_told o in
    read_by_end file event.kind later after t.state outlook
    (λ waits. (batch_decides file outlook).0 (among_touches file event.kind outlook (found waits)))
    (each_change_is_read r file s t commands replies run none calm earlier later told after event now exists
    answer here there same tells)
