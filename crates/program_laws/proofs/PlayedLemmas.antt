-- Who plays what a program took plays every batch of the history, and then what waits.
use Rattle.std.proofs.Common.{◌≡◌, ◌∙◌, ap, List, [], ◌∷◌, ◌++◌, append-nil, map}
use Rattle.std.proofs.lemmas.List.{map-append}
use Rattle.std.specs.declared.alloc.Global.{Global}
use Rattle.notify_paths.specs.Errors.{ErrorValue}
use Rattle.notify_types.specs.Event.{Timed}
use Rattle.notify_watch.specs.Handler.{Outcome}
use Rattle.debounce_model.specs.PathsLaw.{emitted, read_paths}
use Rattle.debounce_model.specs.Play.{Paths, events_of, play}
use Rattle.debounce_model.specs.State.{State}
use Rattle.debounce_laws.proofs.PlayAt.{events-append, play-append}
use Rattle.debounce_book.specs.Journal.{Replays}
use Rattle.debounce_book.specs.JournalLaws.{replies_of}
use Rattle.debounce_lock.specs.History.{picked}
use Rattle.debounce_run.specs.Access.Happened.{History, entries_of, is_emitting}
use Rattle.notify_debouncer_full.proofs.Batches.{in_both, reported_batches}
use Rattle.notify_debouncer_full.specs.Emitted.{events_in, plain, reports_of}
use Rattle.program_frame.specs.Reports.Loop.{Step}
use Rattle.program_reports.specs.Folders.Rest.{IsBatchOf, IsListOf, Waits}
use Rattle.program_laws.specs.Whole.{played_by, taken_in}

-- what waits is the outlook, as reports
batch_waits : (events : List Timed) (batch : List (Outcome Global)) → IsBatchOf events batch →
    events_in (map plain batch) ≡ events
batch_waits [] batch h = ap (λ b. events_in (map plain b)) h
batch_waits (x ∷ xs) batch h =
    ap (λ b. events_in (map plain b)) h.2 ∙ append-nil h.0.items ∙ h.1

-- .. and errors, which are not played
errors_wait : (values : List ErrorValue) (errors : List (Outcome Global)) → IsListOf values errors →
    events_in (map plain errors) ≡ []
errors_wait [] errors h = ap (λ b. events_in (map plain b)) h
errors_wait (e ∷ es) errors h = ap (λ b. events_in (map plain b)) h.2

-- so these are its events
waiting_events : (state : State) (waiting : List (Outcome Global)) → (w : Waits state waiting) →
    events_in (map plain waiting) ≡ w.0
waiting_events state waiting w =
    ap (λ b. events_in (map plain b)) w.6
    ∙ ap events_in (map-append plain w.1 w.2)
    ∙ in_both (map plain w.1) (map plain w.2)
    ∙ ap (λ es. es ++ events_in (map plain w.2)) (batch_waits w.0 w.1 w.4)
    ∙ ap (λ es. w.0 ++ es) (errors_wait state.errors w.2 w.5) ∙ append-nil w.0

-- a program that takes all reports of a history, and then what waits, plays its batches, and then the outlook
pub played_all : (paths : Paths) (steps : List Step) (log : History) (s t state : State)
    (waiting : List (Outcome Global)) → (w : Waits state waiting) → Replays s (entries_of log) t →
    map plain (taken_in steps) ≡ reports_of (picked is_emitting log) ++ map plain waiting →
    played_by paths steps ≡ read_paths paths (replies_of (entries_of log)) w.0
played_all paths steps log s t state waiting w replays all =
    ap (λ reports. play paths (events_of (events_in reports))) all
    ∙ ap (λ es. play paths (events_of es))
    (in_both (reports_of (picked is_emitting log)) (map plain waiting)
    ∙ ap (λ es. es ++ events_in (map plain waiting)) (reported_batches log s t replays)
    ∙ ap (λ es. emitted (replies_of (entries_of log)) ++ es) (waiting_events state waiting w))
    ∙ ap (λ es. play paths es) (events-append (emitted (replies_of (entries_of log))) w.0)
    ∙ play-append paths (events_of (emitted (replies_of (entries_of log)))) (events_of w.0)
