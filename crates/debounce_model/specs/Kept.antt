-- No change is lost: what an accepted event told is found again, in a queue or in a batch.
use Rattle.std.specs.Prelude.{Bool, true, false, not, ◌&&◌, ◌||◌, List, [], ◌∷◌, is_some, if◌then◌else◌}
use Rattle.std.specs.List.{list_any}
use Rattle.notify_types.specs.Event.{EventValue, Timed}
use Rattle.notify_types.specs.KindNumbers.{kind_eq}
use Rattle.notify_types.specs.Kinds.{is_creation, is_removal, is_rename, is_plain}
use Rattle.notify_paths.specs.Path.{PathValue, path_eq, is_prefix}
use Rattle.notify_types.specs.declared.kind.EventKind.{EventKind}
use Rattle.debounce_model.specs.Command.{CommandValue, EventCommand, ReplyValue, TakenReply, BatchReply}
use Rattle.debounce_model.specs.Play.{accepted}
use Rattle.debounce_model.specs.Queues.{events_at}
use Rattle.debounce_model.specs.State.{State}

-- the first of these paths passes the test
abbrev pub has_first : (PathValue → Bool) → List PathValue → Bool
has_first test [] = false
has_first test (path ∷ paths) = test path

-- an event without a flag, of this class, whose first path passes the test
abbrev pub is_event : (EventKind → Bool) → (PathValue → Bool) → EventValue → Bool
is_event class test e = not (is_some e.attrs.flag) && (class e.kind && has_first test e.paths)

-- an event without a flag, and with a path, of class rename
abbrev pub tells_rename : EventValue → Bool
tells_rename e = is_event is_rename (λ path. true) e

-- a rename was accepted
abbrev pub has_rename : List CommandValue → List ReplyValue → Bool
has_rename commands replies = list_any tells_rename (accepted commands replies)

-- an event without a flag is a removal of the path or of a prefix of it
abbrev pub takes_away : PathValue → EventValue → Bool
takes_away path e = is_event is_removal (λ p. is_prefix p path) e

-- an event without a flag stands for a change if it is a creation or has the kind of the change
abbrev pub stands_for : EventKind → Timed → Bool
stands_for kind x = not (is_some x.event.attrs.flag) && (is_creation x.event.kind || kind_eq kind x.event.kind)

-- such an event waits in the queue of the path
abbrev pub is_waiting : PathValue → EventKind → State → Bool
is_waiting path kind s = list_any (stands_for kind) (events_at s.queues path)

-- such an event is among these events, with this first path
abbrev pub is_among : PathValue → EventKind → List Timed → Bool
is_among path kind batch = list_any (λ x. has_first (λ p. path_eq p path) x.event.paths && stands_for kind x)
    batch

-- such an event is in some batch of these replies
abbrev pub is_emitted : PathValue → EventKind → List ReplyValue → Bool
is_emitted path kind [] = false
is_emitted path kind (BatchReply batch ∷ replies) = is_among path kind batch || is_emitted path kind replies
is_emitted path kind (reply ∷ replies) = is_emitted path kind replies

-- a change of this kind at this path is kept by the later commands and their replies: it is found again, unless a
-- removal took the path away
abbrev pub is_change_kept : PathValue → EventKind → List CommandValue → List ReplyValue → State → Bool
is_change_kept path kind commands replies s =
    list_any (takes_away path) (accepted commands replies)
    || (is_waiting path kind s || is_emitted path kind replies)

-- a change at the first of these paths, if there is one, is kept
abbrev pub is_kept_at : List PathValue → EventKind → List CommandValue → List ReplyValue → State → Bool
is_kept_at [] kind commands replies s = true
is_kept_at (path ∷ paths) kind commands replies s = is_change_kept path kind commands replies s

-- an event without a flag tells a change if it is a creation or plain
abbrev pub tells_change : EventValue → Bool
tells_change e = not (is_some e.attrs.flag) && (is_creation e.kind || is_plain e.kind)

-- the change that an event told, if it told one, is kept
abbrev pub is_event_kept : EventValue → List CommandValue → List ReplyValue → State → Bool
is_event_kept e commands replies s = if tells_change e then is_kept_at e.paths e.kind commands replies s
    else true

-- each change that an accepted event told is kept in this final state
abbrev pub is_kept : List CommandValue → List ReplyValue → State → Bool
is_kept (EventCommand event now exists ∷ commands) (TakenReply answer ∷ replies) s =
    is_event_kept event commands replies s && is_kept commands replies s
is_kept (command ∷ commands) (reply ∷ replies) s = is_kept commands replies s
is_kept commands replies s = true
