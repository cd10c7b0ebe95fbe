-- The joined rename at its two paths: the two halves of a rename have found each other, and what waits at the old
-- path goes to the new one.
use Rattle.std.specs.Prelude.{ℕ, ◌-◌, Bool, true, false, List, [], ◌∷◌, ◌++◌, length, take, map, slice_get, unwrap_or, Option, Some, None, codes, if◌then◌else◌}
use Rattle.std.specs.List.{find}
use Rattle.notify_types.specs.Event.{Timed, AttributesValue, no_attributes}
use Rattle.notify_paths.specs.Path.{PathValue}
use Rattle.notify_types.specs.declared.kind.EventKind.{EventKind}
use Rattle.notify_types.specs.declared.kind.EventKind.TheVariants as kind
use Rattle.notify_types.specs.declared.kind.ModifyKind.TheVariants as modify
use Rattle.notify_types.specs.declared.kind.RemoveKind.TheVariants as remove
use Rattle.notify_types.specs.declared.kind.RenameMode.TheVariants as rename
use Rattle.debounce_model.specs.Queues.{Queues, queue_at, events_at, with_queue, without_queue, removes, was_created, was_removed}

-- the events without the last
abbrev pub without_last : List Timed → List Timed
without_last events = take (length events - 1) events

-- the kind of a joined rename
abbrev pub is_both_kind : EventKind → Bool
is_both_kind (kind.Modify (modify.Name rename.Both)) = true
is_both_kind k = false

-- an event is a joined rename
abbrev pub is_both : Timed → Bool
is_both x = is_both_kind x.event.kind

-- the first joined rename, if there is one
abbrev pub first_both : List Timed → Option Timed
first_both events = find is_both events

-- the events without the first joined rename
abbrev pub without_both : List Timed → List Timed
without_both [] = []
without_both (x ∷ xs) = if is_both x then xs else x ∷ without_both xs

-- the path at which a rename from f began: the first path of an earlier rename, if it goes on from one
abbrev pub original_path : Option Timed → PathValue → PathValue
original_path None f = f
original_path (Some x) f = unwrap_or (slice_get x.event.paths 0) f

-- the time at which a rename began whose first half came at this time: that of an earlier rename, if it goes on
-- from one
abbrev pub original_time : Option Timed → ℕ → ℕ
original_time None time = time
original_time (Some x) time = x.time

-- the event that stays at the source: the front, if it removes
abbrev pub staying : List Timed → Option Timed
staying [] = None
staying (x ∷ xs) = if removes x.event.kind then Some x else None

-- the events that go along: the others
abbrev pub moving : List Timed → List Timed
moving [] = []
moving (x ∷ xs) = if removes x.event.kind then xs else x ∷ xs

-- the queues, with what stays left at the source
abbrev pub left_behind : Queues → PathValue → Option Timed → Queues
left_behind queues f None = without_queue queues f
left_behind queues f (Some x) = with_queue queues f (x ∷ [])

-- the event, at this path alone
abbrev pub at_path : PathValue → Timed → Timed
at_path t x = record x { event = record x.event { paths = t ∷ [] } }

-- the event that tells the rename from o to t
abbrev pub rename_event : PathValue → PathValue → AttributesValue → ℕ → Timed
rename_event o t attrs time =
    record {
      event = record {
        kind = kind.Modify (modify.Name rename.Both);
        paths = o ∷ t ∷ [];
        attrs =
            attrs;
      };
      time = time;
    }

-- the rename is reported, unless what goes along was created: then that is created at t
abbrev pub renaming : PathValue → PathValue → AttributesValue → ℕ → List Timed → List Timed
renaming o t attrs time moved = if was_created moved then [] else rename_event o t attrs time ∷ []

-- the info that something was overridden, and nothing else
abbrev pub override_attributes : AttributesValue
override_attributes = record no_attributes { info = Some (codes "override") }

-- the event that tells the removal of what was at t
abbrev pub override_event : PathValue → AttributesValue → ℕ → Timed
override_event t attrs time =
    record { event = record { kind = kind.Remove remove.Any; paths = t ∷ []; attrs = attrs }; time = time }

-- the removal is reported if something waits at t that wasn't created; it has the info, unless that was removed
abbrev pub overriding : PathValue → ℕ → Option (List Timed) → List Timed
overriding t time None = []
overriding t time (Some target) =
    if was_created target then []
    else override_event t (if was_removed target then no_attributes else override_attributes) time ∷ []

-- what then waits at t: the removal of what was there, the rename, and what goes along from f, each if there is one.
-- It is made of these events of f, and of what waits at t
abbrev pub arrived : List Timed → Option (List Timed) → PathValue → PathValue → ℕ → AttributesValue → List Timed
arrived events target f t time attrs =
    let earlier = first_both events in
    let moved = map (at_path t) (moving (without_both events)) in
    overriding t (original_time earlier time) target
    ++ (renaming (original_path earlier f) t attrs (original_time earlier time) moved ++ moved)

-- what the joined rename from f to t makes of what waits at these two paths. The first half came at this time, and
-- is what came last at f; the second half has these attributes
abbrev pub joined_halves : Queues → PathValue → PathValue → ℕ → AttributesValue → Queues
joined_halves queues f t time attrs =
    let events = without_last (events_at queues f) in
    let left = left_behind queues f (staying (without_both events)) in
    with_queue left t (arrived events (queue_at left t) f t time attrs)
