-- A reader's set of paths, and what events make of it. Nothing here knows of queues or of cancellation.
use Rattle.std.specs.Prelude.{Bool, not, List, [], ◌∷◌, map, filter, if◌then◌else◌}
use Rattle.std.specs.List.{list_any}
use Rattle.std.specs.BTreeMap.{is_at}
use Rattle.std.specs.BTreeSet.{insert_key}
use Rattle.notify_types.specs.Event.{EventValue, Timed}
use Rattle.notify_types.specs.Kinds.{is_creation, is_removal}
use Rattle.notify_paths.specs.Path.{PathValue, path_cmp, is_prefix}
use Rattle.notify_types.specs.declared.kind.EventKind.{EventKind}
use Rattle.debounce_model.specs.Command.{CommandValue, EventCommand, ReplyValue, TakenReply}

-- a set of paths, in their order
abbrev pub Paths : Type 0
Paths = List PathValue

-- the path is in the set
abbrev pub has_path : Paths → PathValue → Bool
has_path paths path = list_any (is_at (path_cmp path)) paths

-- the set with the path
abbrev pub with_path : Paths → PathValue → Paths
with_path paths path = insert_key path_cmp paths path

-- the set without what lies at or below the path
abbrev pub without_at : Paths → PathValue → Paths
without_at paths path = filter (λ p. not (is_prefix path p)) paths

-- a creation adds its path, a removal takes its path and all below it away, other kinds do nothing
abbrev pub play_at : Paths → EventKind → PathValue → Paths
play_at paths kind path =
    if is_creation kind then with_path paths path else (if is_removal kind then without_at paths path
    else paths)

-- an event of this kind is played by the first of its paths; without paths it does nothing
abbrev pub play_first : Paths → EventKind → List PathValue → Paths
play_first paths kind [] = paths
play_first paths kind (path ∷ others) = play_at paths kind path

-- one event played on the set
abbrev pub play_one : Paths → EventValue → Paths
play_one paths event = play_first paths event.kind event.paths

-- the events played on the set, in order
abbrev pub play : Paths → List EventValue → Paths
play paths [] = paths
play paths (event ∷ events) = play (play_one paths event) events

-- the events without their times
abbrev pub events_of : List Timed → List EventValue
events_of timed = map (λ x. x.event) timed

-- the accepted events, as they came
abbrev pub accepted : List CommandValue → List ReplyValue → List EventValue
accepted (EventCommand event now exists ∷ commands) (TakenReply answer ∷ replies) =
    event ∷ accepted commands replies
accepted (command ∷ commands) (reply ∷ replies) = accepted commands replies
accepted commands replies = []

-- the raw paths: the accepted events played as they came
abbrev pub raw_paths : Paths → List CommandValue → List ReplyValue → Paths
raw_paths paths commands replies = play paths (accepted commands replies)
