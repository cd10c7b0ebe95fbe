-- Nothing waits too long: after a tick nothing is due, and without renames each change is emitted by the first tick at
-- which it is as old as the timeout.
use Rattle.std.specs.Prelude.{◌≡◌, ◌+◌, ℕ, nat_le, max, Bool, true, false, not, ◌&&◌, ◌||◌, List, [], ◌∷◌, if◌then◌else◌}
use Rattle.std.specs.List.{AllByRecursion}
use Rattle.notify_types.specs.Event.{EventValue}
use Rattle.notify_paths.specs.Path.{PathValue}
use Rattle.notify_types.specs.declared.kind.EventKind.{EventKind}
use Rattle.debounce_model.specs.Command.{CommandValue, EventCommand, TickCommand, ReplyValue, TakenReply, BatchReply}
use Rattle.debounce_model.specs.Kept.{is_among, takes_away, tells_change}
use Rattle.debounce_model.specs.State.{State}
use Rattle.debounce_model.specs.Tick.{is_expired}

-- each event that waits in a queue is younger than the timeout at the latest moment
abbrev pub IsEachYoung : State → Type 0
IsEachYoung s =
    AllByRecursion (λ e. AllByRecursion (λ x. is_expired s.timeout s.latest x ≡ false) e.1) s.queues

-- a change of this kind at this path is emitted, as an event of its kind or a creation, by the first tick that comes at
-- this moment or later, unless a removal took the path away before; `latest` is the greatest moment until then
abbrev pub is_emitted_by : ℕ → PathValue → EventKind → ℕ → List CommandValue → List ReplyValue → Bool
is_emitted_by moment path kind latest (TickCommand now ∷ commands) (BatchReply batch ∷ replies) =
    is_among path kind batch
    || (not (nat_le moment (max latest now)) && is_emitted_by moment path kind (max latest now) commands replies)
is_emitted_by moment path kind latest (EventCommand event now exists ∷ commands) (TakenReply answer ∷ replies) =
    takes_away path event || is_emitted_by moment path kind (max latest now) commands replies
is_emitted_by moment path kind latest (command ∷ commands) (reply ∷ replies) =
    is_emitted_by moment path kind latest commands replies
is_emitted_by moment path kind latest commands replies = true

-- a change at the first of these paths, if there is one, is emitted by then
abbrev pub is_emitted_at : ℕ → List PathValue → EventKind → ℕ → List CommandValue → List ReplyValue → Bool
is_emitted_at moment [] kind latest commands replies = true
is_emitted_at moment (path ∷ paths) kind latest commands replies =
    is_emitted_by moment path kind latest commands replies

-- the change that an event told, if it told one, which was taken at the latest moment, is emitted by the first tick at
-- which it is as old as the timeout
abbrev pub is_event_soon : ℕ → EventValue → ℕ → List CommandValue → List ReplyValue → Bool
is_event_soon timeout e latest commands replies =
    if tells_change e then is_emitted_at (latest + timeout) e.paths e.kind latest commands replies else true

-- so is each change that an accepted event told
abbrev pub is_soon : ℕ → ℕ → List CommandValue → List ReplyValue → Bool
is_soon timeout latest (EventCommand event now exists ∷ commands) (TakenReply answer ∷ replies) =
    is_event_soon timeout event (max latest now) commands replies
    && is_soon timeout (max latest now) commands replies
is_soon timeout latest (TickCommand now ∷ commands) (BatchReply batch ∷ replies) =
    is_soon timeout (max latest now) commands replies
is_soon timeout latest (command ∷ commands) (reply ∷ replies) = is_soon timeout latest commands replies
is_soon timeout latest commands replies = true
