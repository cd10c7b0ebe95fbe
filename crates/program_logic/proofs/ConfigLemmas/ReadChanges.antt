-- Each accepted change of a file is read again or waits. The function of the law cites it.
use Rattle.std.proofs.Common.{◌≡◌, suc, sym, subst, refl, true≢false, arith, Bool, true, false, cond, ◌&&◌, ◌||◌}
use Rattle.std.proofs.Common.{◌⊎◌, inl, inr, List, [], ◌∷◌, ◌++◌, length}
use Rattle.std.specs.List.{Any, list_any}
use Rattle.notify_types.specs.Event.{EventValue, Timed}
use Rattle.notify_types.specs.declared.kind.EventKind.{EventKind}
use Rattle.notify_paths.specs.Path.{PathValue, path_eq}
use Rattle.notify_paths.specs.PathLaws.{path_eq_decides}
use Rattle.debounce_model.specs.Cache.{Rules}
use Rattle.debounce_model.specs.Command.{CommandValue, EventCommand, ReplyValue, TakenReply, BatchReply}
use Rattle.debounce_model.specs.Kept.{has_first, is_among, is_change_kept, is_emitted, is_event_kept, is_kept}
use Rattle.debounce_model.specs.Kept.{is_kept_at, is_waiting, takes_away}
use Rattle.debounce_model.specs.Play.{accepted}
use Rattle.debounce_model.specs.State.{State}
use Rattle.debounce_laws.proofs.KeptLemmas.{no_change_is_lost}
use Rattle.program_logic.specs.Config.Reloads.{IsReadOrWaits, ReadsAgain, RunsReadEachChange, TellsChangeOf}
use Rattle.program_logic.proofs.ConfigLemmas.Touching.{and_left, among_touches, batch_decides}

-- the other part of a conjunction
and_right : (a b : Bool) → (a && b) ≡ true → b ≡ true
and_right true b h = h
and_right false b h = absurd (true≢false (sym h))

-- what is kept by some commands and replies is kept without the first of them
kept_tail : (c : CommandValue) (y : ReplyValue) (cs : List CommandValue) (ys : List ReplyValue) (s : State)
    → is_kept (c ∷ cs) (y ∷ ys) s ≡ true → is_kept cs ys s ≡ true
kept_tail (EventCommand event now exists) (TakenReply answer) cs ys s h = and_right (is_event_kept event cs ys s) _ h
kept_tail c y cs ys s h = h

-- .. and without the first few
kept_later : (earlier later : List CommandValue) (told after : List ReplyValue) (s : State)
    → length earlier ≡ length told → is_kept (earlier ++ later) (told ++ after) s ≡ true
    → is_kept later after s ≡ true
kept_later [] later [] after s same h = h
kept_later [] later (y ∷ ys) after s same h = absurd (omega (arith, same))
kept_later (c ∷ cs) later [] after s same h = absurd (omega (arith, same))
kept_later (c ∷ cs) later (y ∷ ys) after s same h =
    kept_later cs later ys after s (omega (arith, same)) (kept_tail c y (cs ++ later) (ys ++ after) s h)

-- a change at the first path is one of the file, if that is the file
first_kept : (file : PathValue) (paths : List PathValue) (kind : EventKind) (later : List CommandValue)
    (after : List ReplyValue) (s : State) → has_first (λ p. path_eq p file) paths ≡ true
    → is_kept_at paths kind later after s ≡ true → is_change_kept file kind later after s ≡ true
first_kept file [] kind later after s names h = absurd (true≢false (sym names))
first_kept file (path ∷ paths) kind later after s names h =
    subst (λ p. is_change_kept p kind later after s ≡ true) ((path_eq_decides path file).0 names) h

-- the change that an event told of the file is kept
change_kept : (file : PathValue) (event : EventValue) (later : List CommandValue) (after : List ReplyValue)
    (s : State) → TellsChangeOf file event → is_event_kept event later after s ≡ true
    → is_change_kept file event.kind later after s ≡ true
change_kept file event later after s (tells, names) h =
    first_kept file event.paths event.kind later after s names
    (subst (λ b. cond b (is_kept_at event.paths event.kind later after s) true ≡ true) tells h)

-- one reply more before the others
read_behind : (file : PathValue) (y : ReplyValue) (ys : List ReplyValue) → Any (ReadsAgain file) ys
    → Any (ReadsAgain file) (y ∷ ys)
read_behind file y ys (k, x, below, is, reads) = (suc k, x, omega (arith, below), is, reads)

-- a batch in which the change is found, or else the others
read_first : (file : PathValue) (kind : EventKind) (batch : List Timed) (ys : List ReplyValue) (b : Bool)
    → is_among file kind batch ≡ b → (b || is_emitted file kind ys) ≡ true
    → (is_emitted file kind ys ≡ true → Any (ReadsAgain file) ys) → Any (ReadsAgain file) (BatchReply batch ∷ ys)
read_first file kind batch ys true found h others =
    let touched = (batch_decides file batch).0 (among_touches file kind batch found) in
    (0, BatchReply batch, omega arith, refl, (batch, (refl, touched)))
read_first file kind batch ys false found h others = read_behind file (BatchReply batch) ys (others h)

-- where a change of the file was handed out, the file is read again
read_again : (file : PathValue) (kind : EventKind) (ys : List ReplyValue) → is_emitted file kind ys ≡ true
    → Any (ReadsAgain file) ys
read_again file kind [] h = absurd (true≢false (sym h))
read_again file kind (BatchReply batch ∷ ys) h =
    read_first file kind batch ys (is_among file kind batch) refl h (read_again file kind ys)
read_again file kind (y ∷ ys) h = read_behind file y ys (read_again file kind ys h)

-- three ways in which a change is kept
three_ways : (away waits emitted : Bool) (P : Type 0) → (emitted ≡ true → P)
    → (away || (waits || emitted)) ≡ true → P ⊎ ((waits ≡ true) ⊎ (away ≡ true))
three_ways true waits emitted P reads h = inr (inr refl)
three_ways false true emitted P reads h = inr (inl refl)
three_ways false false emitted P reads h = inl (reads h)

-- a change that is kept is read or waits
read_or_waits : (file : PathValue) (kind : EventKind) (later : List CommandValue) (after : List ReplyValue)
    (s : State) → is_change_kept file kind later after s ≡ true → IsReadOrWaits file kind later after s
read_or_waits file kind later after s h =
    three_ways (list_any (takes_away file) (accepted later after)) (is_waiting file kind s)
    (is_emitted file kind after) (Any (ReadsAgain file) after) (read_again file kind after) h

-- so it is with each accepted change in a run without renames from where nothing waits
pub each_change_is_read : {C : Type 0} (r : Rules C) → RunsReadEachChange r
each_change_is_read r = λ file s t commands replies run none calm.
    λ earlier later told after event now exists answer here there same tells.
    let kept = no_change_is_lost r s t commands replies none calm run in
    let parted = subst (λ ys. is_kept (earlier ++ EventCommand event now exists ∷ later) ys t.state ≡ true) there
    (subst (λ cs. is_kept cs replies t.state ≡ true) here kept) in
    let first = and_left (is_event_kept event later after t.state) _
    (kept_later earlier (EventCommand event now exists ∷ later) told (TakenReply answer ∷ after) t.state
    same parted) in
    read_or_waits file event.kind later after t.state (change_kept file event later after t.state tells first)
