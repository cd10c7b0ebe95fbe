-- Queues by their paths: what waits, and how a push and a removal change it.
use Rattle.std.specs.Prelude.{ℕ, Bool, true, false, not, ◌&&◌, List, [], ◌∷◌, ◌++◌, length, Option, Some, None, unwrap_or, if◌then◌else◌, filter}
use Rattle.std.specs.List.{sum_by}
use Rattle.std.specs.Map.{lookup, remove_entry, values_of}
use Rattle.std.specs.BTreeMap.{is_at, insert_entry}
use Rattle.notify_types.specs.Event.{Timed}
use Rattle.notify_types.specs.Kinds.{is_skippable}
use Rattle.notify_paths.specs.Path.{PathValue, path_cmp, is_below}
use Rattle.notify_types.specs.declared.kind.EventKind.{EventKind}
use Rattle.notify_types.specs.declared.kind.EventKind.TheVariants as kind
use Rattle.notify_types.specs.declared.kind.ModifyKind.TheVariants as modify
use Rattle.notify_types.specs.declared.kind.RenameMode.TheVariants as rename

-- the queues in the order of their paths: a map from paths to lists of events
abbrev pub Queues : Type 0
Queues = List (PathValue × List Timed)

-- the queue of a path, if it has one
abbrev pub queue_at : Queues → PathValue → Option (List Timed)
queue_at queues path = lookup (is_at (path_cmp path)) queues

-- what waits at a path: nothing if it has no queue
abbrev pub events_at : Queues → PathValue → List Timed
events_at queues path = unwrap_or (queue_at queues path) []

-- the queues, with these events as the queue of the path
abbrev pub with_queue : Queues → PathValue → List Timed → Queues
with_queue queues path events = insert_entry path_cmp queues path events

-- the queues without that of the path
abbrev pub without_queue : Queues → PathValue → Queues
without_queue queues path = remove_entry (is_at (path_cmp path)) queues

-- the queues without those strictly below the path
abbrev pub without_below : Queues → PathValue → Queues
without_below queues path = filter (λ e. not (is_below e.0 path)) queues

-- how many events wait
abbrev pub waiting_in : Queues → ℕ
waiting_in queues = sum_by length (values_of queues)

-- a kind after which its path is there
abbrev pub creates : EventKind → Bool
creates (kind.Create k) = true
creates (kind.Modify (modify.Name rename.To)) = true
creates k = false

-- a kind after which its path is gone
abbrev pub removes : EventKind → Bool
removes (kind.Remove k) = true
removes (kind.Modify (modify.Name rename.From)) = true
removes k = false

-- a queue was created if its first event creates
abbrev pub was_created : List Timed → Bool
was_created [] = false
was_created (x ∷ xs) = creates x.event.kind

-- a queue was removed if its first event removes
abbrev pub was_removed : List Timed → Bool
was_removed [] = false
was_removed (x ∷ xs) = removes x.event.kind

-- a queue that was created skips a second creation and each modification
abbrev pub skips : List Timed → EventKind → Bool
skips events k = is_skippable k && was_created events

-- a queue, if there is one, skips this kind
abbrev pub skips_at : Option (List Timed) → EventKind → Bool
skips_at None k = false
skips_at (Some events) k = skips events k

-- a queue with the event after the others, unless it skips it
abbrev pub appended : List Timed → Timed → List Timed
appended events x = if skips events x.event.kind then events else events ++ x ∷ []

-- the push of an event to a path that has this queue, or none
abbrev pub pushed_on : Queues → PathValue → Timed → Option (List Timed) → Queues
pushed_on queues path x None = with_queue queues path (x ∷ [])
pushed_on queues path x (Some events) =
    if skips events x.event.kind then queues else with_queue queues path (events ++ x ∷ [])

-- the push: an event comes after the others of its path, unless their queue skips it
abbrev pub push : Queues → PathValue → Timed → Queues
push queues path x = pushed_on queues path x (queue_at queues path)

-- a queue, if there is one, was created
abbrev pub was_created_at : Option (List Timed) → Bool
was_created_at None = false
was_created_at (Some events) = was_created events

-- the removal of a path drops what waits below it; its own queue goes away if it was created, and else becomes this
-- one event
abbrev pub removal : Queues → PathValue → Timed → Queues
removal queues path x =
    if was_created_at (queue_at queues path)
    then without_queue (without_below queues path) path
    else with_queue (without_below queues path) path (x ∷ [])
