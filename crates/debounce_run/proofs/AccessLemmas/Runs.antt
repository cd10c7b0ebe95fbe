-- A run by the cache's rules goes on, and of a cache without numbers its entries have none.
use Rattle.std.proofs.Common.{◌≡◌, ◌∙◌, ℕ, List, [], ◌∷◌, ◌++◌, Option, Some, None, refl, sym, ap, subst, append_assoc, append-nil}
use Rattle.notify_paths.specs.Path.{PathValue}
use Rattle.notify_types.specs.Event.{EventValue, first_of}
use Rattle.debounce_model.specs.declared.case.Case.{Case}
use Rattle.debounce_model.specs.declared.case.Case.TheVariants.{Rescan, Creation, Removal, RenameFrom, RenameTo, Plain, Ignored}
use Rattle.debounce_model.specs.declared.file_id.FileId.{FileId}
use Rattle.debounce_model.specs.Cache.{CarriesOut, Rules}
use Rattle.debounce_model.specs.Calls.{add_missing, calls_in, recursive_mode, remove_half}
use Rattle.debounce_model.specs.Command.{CommandValue, EventCommand, ErrorCommand, RootCommand, UnrootCommand, ErrorsCommand, TickCommand, ReplyValue, TakenReply, NotedReply, RootedReply, UnrootedReply, ErrorsReply, BatchReply, RefusedReply}
use Rattle.debounce_model.specs.RenameSlot.{first_half}
use Rattle.debounce_model.specs.Run.{Run, Step}
use Rattle.debounce_model.specs.State.{State, Core}
use Rattle.debounce_model.specs.Table.{case_of}
use Rattle.debounce_book.specs.Journal.{EntryValue, IsLegal, Replays}
use Rattle.debounce_book.proofs.Replay.{Accepts-step, state-refused}
use Rattle.debounce_run.specs.Access.Ran.{HasNoNumber, HaveNoNumbers, NumbersNothing, RanTo, entry_if, opened_core, taken_in}

module _ {C : Type 0} (r : Rules C) where
  -- a run goes on by a step
  run_next : (s m t : Core C) (cs : List CommandValue) (ys : List ReplyValue) (c : CommandValue) (y : ReplyValue)
      → Run r s cs ys m → Step r m c y t → Run r s (cs ++ c ∷ []) (ys ++ y ∷ []) t
  run_next s m t [] [] c y ran step = (t, subst (λ (k : Core C). Step r k c y t) ran step, refl)
  run_next s m t [] (z ∷ zs) c y ran step = absurd ran
  run_next s m t (x ∷ xs) [] c y ran step = absurd ran
  run_next s m t (x ∷ xs) (z ∷ zs) c y (k, first, more) step = (k, first, run_next k m t xs zs c y more step)

  -- .. and so do its entries, unless that was refused
  taken_next : (s m : Core C) (cs : List CommandValue) (ys : List ReplyValue) (c : CommandValue) (y : ReplyValue)
      → Run r s cs ys m → taken_in (cs ++ c ∷ []) (ys ++ y ∷ []) ≡ taken_in cs ys ++ entry_if c y
  taken_next s m [] [] c y ran = append-nil (entry_if c y)
  taken_next s m [] (z ∷ zs) c y ran = absurd ran
  taken_next s m (x ∷ xs) [] c y ran = absurd ran
  taken_next s m (x ∷ xs) (z ∷ zs) c y (k, first, more) = ap (λ l. entry_if x z ++ l) (taken_next k m xs zs c y more)
      ∙ sym (append_assoc (entry_if x z) (taken_in xs zs) (entry_if c y))

  pub ran_next : (old new : Core C) (es : List EntryValue) (c : CommandValue) (y : ReplyValue)
      → new.state.timeout ≡ old.state.timeout → RanTo r es old → Step r old c y new → RanTo r (es ++ entry_if c y) new
  ran_next old new es c y timeout to step = record {
    cache = to.cache;
    commands = to.commands ++ c ∷ [];
    replies = to.replies ++ y ∷ [];
    ran =
        subst (λ n. Run r (opened_core n to.cache) (to.commands ++ c ∷ []) (to.replies ++ y ∷ []) new) (sym timeout)
        (run_next _ old new to.commands to.replies c y to.ran step);
    entries =
        taken_next _ old to.commands to.replies c y to.ran ∙ ap (λ l. l ++ entry_if c y) to.entries;
  }

  -- what was taken in a run is accepted by the state, and what was refused leaves it
  step_replays : (s m t : Core C) (c : CommandValue) (y : ReplyValue) (es : List EntryValue) → Step r s c y m
      → Replays m.state es t.state → Replays s.state (entry_if c y ++ es) t.state
  step_replays s m t c (TakenReply answer) es h more = (m.state, Accepts-step r s m c (TakenReply answer) refl h, more)
  step_replays s m t c NotedReply es h more = (m.state, Accepts-step r s m c NotedReply refl h, more)
  step_replays s m t c RootedReply es h more = (m.state, Accepts-step r s m c RootedReply refl h, more)
  step_replays s m t c UnrootedReply es h more = (m.state, Accepts-step r s m c UnrootedReply refl h, more)
  step_replays s m t c (ErrorsReply errors) es h more =
      (m.state, Accepts-step r s m c (ErrorsReply errors) refl h, more)
  step_replays s m t c (BatchReply batch) es h more = (m.state, Accepts-step r s m c (BatchReply batch) refl h, more)
  step_replays s m t c (RefusedReply error) es h more =
      subst (λ (k : State). Replays k es t.state) (state-refused r s m c error h) more

  run_replays : (s t : Core C) (cs : List CommandValue) (ys : List ReplyValue) → Run r s cs ys t
      → Replays s.state (taken_in cs ys) t.state
  run_replays s t [] [] ran = ap (λ (k : Core C). k.state) ran
  run_replays s t [] (y ∷ ys) ran = absurd ran
  run_replays s t (c ∷ cs) [] ran = absurd ran
  run_replays s t (c ∷ cs) (y ∷ ys) (m, step, more) =
      step_replays s m t c y (taken_in cs ys) step (run_replays m t cs ys more)

  -- so the entries are a legal journal
  pub ran_legal : (es : List EntryValue) (core : Core C) → RanTo r es core → IsLegal es core.state
  ran_legal es core to =
      subst (λ (l : List EntryValue). IsLegal l core.state) to.entries
      (run_replays (opened_core core.state.timeout to.cache) core to.commands to.replies to.ran)

  module _ (none : NumbersNothing r) where
    -- an event has no number for an answer
    answers_nothing : (case : Case) (s : State) (e : EventValue) (c d : C) (answer : Option FileId)
        → CarriesOut r c (calls_in case s e) answer d → answer ≡ None
    answers_nothing Rescan s e c d answer h = h.2.0
    answers_nothing Creation s e c d answer h = h.2.0
    answers_nothing Removal s e c d answer h = h.2.0
    answers_nothing RenameFrom s e c d answer h = h.2.0 ∙ none c (first_of e.paths)
    answers_nothing RenameTo s e c d answer h =
        by (r.numbers h.0 (first_of e.paths)) (none h.0 (first_of e.paths)) (first_half s.rename_slot e (r.numbers h.0
        (first_of e.paths))) h.2
      where
        by : (n : Option FileId) → n ≡ None → (half : Option (PathValue × ℕ)) → CarriesOut r h.0 (remove_half half n)
            answer d → answer ≡ None
        by n is None went = went.0 ∙ is
        by n is (Some (from, time)) went = went.2.0 ∙ is
    answers_nothing Plain s e c d answer h =
        by (r.numbers c (first_of e.paths)) h
      where
        by : (n : Option FileId) → CarriesOut r c (add_missing (first_of e.paths) (recursive_mode s (first_of e.paths))
            n) answer d → answer ≡ None
        by None went = went.2.0
        by (Some n) went = went.0
    answers_nothing Ignored s e c d answer h = h.0

    -- so none stands in a reply
    step_numbers : (s t : Core C) (c : CommandValue) (y : ReplyValue) → Step r s c y t → HasNoNumber y
    step_numbers s t (EventCommand event now exists) (TakenReply answer) (taken, is) =
        is ∙ answers_nothing (case_of event exists) s.state event s.cache t.cache t.answer taken.calls
    step_numbers s t (ErrorCommand error) (TakenReply answer) h = absurd h
    step_numbers s t (RootCommand path mode) (TakenReply answer) h = absurd h
    step_numbers s t (UnrootCommand path) (TakenReply answer) h = absurd h
    step_numbers s t ErrorsCommand (TakenReply answer) h = absurd h
    step_numbers s t (TickCommand now) (TakenReply answer) h = absurd h
    step_numbers s t c NotedReply h = tt
    step_numbers s t c RootedReply h = tt
    step_numbers s t c UnrootedReply h = tt
    step_numbers s t c (ErrorsReply errors) h = tt
    step_numbers s t c (BatchReply batch) h = tt
    step_numbers s t c (RefusedReply error) h = tt

    put_first : (c : CommandValue) (y : ReplyValue) (es : List EntryValue) → HasNoNumber y → HaveNoNumbers es
        → HaveNoNumbers (entry_if c y ++ es)
    put_first c (TakenReply answer) es h more = (h, more)
    put_first c NotedReply es h more = (h, more)
    put_first c RootedReply es h more = (h, more)
    put_first c UnrootedReply es h more = (h, more)
    put_first c (ErrorsReply errors) es h more = (h, more)
    put_first c (BatchReply batch) es h more = (h, more)
    put_first c (RefusedReply error) es h more = more

    run_numbers : (s t : Core C) (cs : List CommandValue) (ys : List ReplyValue) → Run r s cs ys t
        → HaveNoNumbers (taken_in cs ys)
    run_numbers s t [] [] ran = tt
    run_numbers s t [] (y ∷ ys) ran = absurd ran
    run_numbers s t (c ∷ cs) [] ran = absurd ran
    run_numbers s t (c ∷ cs) (y ∷ ys) (m, step, more) =
        put_first c y (taken_in cs ys) (step_numbers s m c y step) (run_numbers m t cs ys more)

    -- .. or in an entry of the history
    pub ran_numbers : (es : List EntryValue) (core : Core C) → RanTo r es core → HaveNoNumbers es
    ran_numbers es core to =
        subst (λ (l : List EntryValue). HaveNoNumbers l) to.entries (run_numbers _ core to.commands to.replies to.ran)
