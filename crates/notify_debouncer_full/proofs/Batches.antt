-- The reports of a history have the events of its batches.
use Rattle.std.proofs.Common.{◌≡◌, ◌∙◌, ap, refl, sym, Bool, true, false, if◌then◌else◌, List, [], ◌∷◌, ◌++◌, append-nil, append_assoc}
use Rattle.debounce_model.specs.Command.{CommandValue, EventCommand, ErrorCommand, RootCommand, UnrootCommand, ErrorsCommand, TickCommand, ReplyValue, TakenReply, NotedReply, RootedReply, UnrootedReply, ErrorsReply, BatchReply}
use Rattle.debounce_model.specs.PathsLaw.{emitted}
use Rattle.debounce_model.specs.State.{State}
use Rattle.debounce_book.specs.Journal.{Accepts, EntryValue, Replays}
use Rattle.debounce_book.specs.JournalLaws.{replies_of}
use Rattle.debounce_lock.specs.History.{picked}
use Rattle.debounce_run.specs.Access.Happened.{History, Opened, Accepted, Missed, asks, entries_of, is_emitting}
use Rattle.notify_debouncer_full.specs.Emitted.{Report, batch_of, events_in, reported_by, reports_of}

-- the events of some reports and then of others
pub in_both : (xs ys : List Report) → events_in (xs ++ ys) ≡ events_in xs ++ events_in ys
in_both [] ys = refl
in_both (report ∷ xs) ys =
    ap (λ es. batch_of report ++ es) (in_both xs ys)
    ∙ sym (append_assoc (batch_of report) (events_in xs) (events_in ys))

-- what is reported by a reply has its batch
by_reply : (y : ReplyValue) → events_in (reported_by y) ≡ emitted (y ∷ [])
by_reply (BatchReply []) = refl
by_reply (BatchReply (x ∷ xs)) = refl
by_reply (ErrorsReply []) = refl
by_reply (ErrorsReply (x ∷ xs)) = refl
by_reply y = refl

-- what one reply emitted, and then the others
emitted_one : (y : ReplyValue) (ys : List ReplyValue) → emitted (y ∷ ys) ≡ emitted (y ∷ []) ++ emitted ys
emitted_one (BatchReply batch) ys = ap (λ es. es ++ emitted ys) (sym (append-nil batch))
emitted_one y ys = refl

-- who doesn't ask gets no batch
unasked : (s m : State) (c : CommandValue) (y : ReplyValue) → Accepts s c y m → asks c ≡ false → emitted (y ∷ []) ≡ []
unasked s m (EventCommand event now exists) (TakenReply answer) h none = refl
unasked s m (ErrorCommand error) NotedReply h none = refl
unasked s m (RootCommand path mode) RootedReply h none = refl
unasked s m (UnrootCommand path) UnrootedReply h none = refl
unasked s m ErrorsCommand (ErrorsReply errors) h none = refl
unasked s m (TickCommand now) (BatchReply batch) h none = cc
unasked s m c y h none = absurd h

-- one entry more, in a history and in its reports
with_one : (e : EntryValue) (log : History) → (b : Bool) → (b ≡ false → emitted (e.reply ∷ []) ≡ []) →
    events_in (reports_of (picked is_emitting log)) ≡ emitted (replies_of (entries_of log)) →
    events_in (reports_of (if b then Accepted e ∷ picked is_emitting log else picked is_emitting log))
    ≡ emitted (e.reply ∷ replies_of (entries_of log))
with_one e log true none rest =
    in_both (reported_by e.reply) (reports_of (picked is_emitting log))
    ∙ ap (λ es. es ++ events_in (reports_of (picked is_emitting log))) (by_reply e.reply)
    ∙ ap (λ es. emitted (e.reply ∷ []) ++ es) rest ∙ sym (emitted_one e.reply (replies_of (entries_of log)))
with_one e log false none rest =
    rest ∙ sym (emitted_one e.reply (replies_of (entries_of log))
    ∙ ap (λ es. es ++ emitted (replies_of (entries_of log))) (none refl))

-- the reports of a history have the events of its batches
pub reported_batches : (log : History) (s t : State) → Replays s (entries_of log) t →
    events_in (reports_of (picked is_emitting log)) ≡ emitted (replies_of (entries_of log))
reported_batches [] s t h = refl
reported_batches (Opened timeout journaled ∷ log) s t h = reported_batches log s t h
reported_batches (Missed ∷ log) s t h = reported_batches log s t h
reported_batches (Accepted e ∷ log) s t h =
    with_one e log (asks e.command) (unasked s h.0 e.command e.reply h.1) (reported_batches log h.0 t h.2)
