-- How the code makes a joined rename in its map: words for the contracts of its private functions. No definition of
-- what a debouncer does cites them.
use Rattle.std.specs.Prelude.{ℕ, ◌≡◌, true, List, [], ◌∷◌, ◌++◌, map, Option, Some, None, is_some, filter, if◌then◌else◌}
use Rattle.std.specs.List.{AllByRecursion}
use Rattle.notify_types.specs.Event.{Timed, AttributesValue}
use Rattle.notify_paths.specs.Path.{PathValue}
use Rattle.notify_paths.specs.PathMoves.{relocated}
use Rattle.debounce_model.specs.Due.{waits}
use Rattle.debounce_model.specs.Moved.{below_of}
use Rattle.debounce_model.specs.Queues.{Queues, queue_at, events_at, with_queue, without_queue}
use Rattle.debounce_model.specs.Rename.{without_last, without_both, staying, left_behind, original_path, original_time, at_path, renaming, overriding}

-- the queue of what stays at the source of a rename: of one event, or none
abbrev pub queue_of : Option Timed → Option (List Timed)
queue_of None = None
queue_of (Some x) = Some (x ∷ [])

-- what waits at a path before the first half of a rename, which came last
abbrev pub before_half : Queues → PathValue → List Timed
before_half queues path = without_last (events_at queues path)

-- the queues, with what a rename from the path leaves there
abbrev pub left_at : Queues → PathValue → Queues
left_at queues path = left_behind queues path (staying (without_both (before_half queues path)))

-- what then waits at t, of an earlier rename, of what goes along, and of what waits at t
abbrev pub arrived_of : Option Timed → List Timed → Option (List Timed) → PathValue → PathValue → ℕ →
    AttributesValue → List Timed
arrived_of earlier going target f t time attrs =
    let moved = map (at_path t) going in
    overriding t (original_time earlier time) target
    ++ (renaming (original_path earlier f) t attrs (original_time earlier time) moved ++ moved)

-- the queues with an empty one at this path, if it has none
abbrev pub reserved_on : Queues → PathValue → Option (List Timed) → Queues
reserved_on queues path None = with_queue queues path []
reserved_on queues path (Some events) = queues

-- room for a queue at the path: an empty one, if it has none
abbrev pub reserved : Queues → PathValue → Queues
reserved queues path = reserved_on queues path (queue_at queues path)

-- room for each of these queues
abbrev pub reserved_all : Queues → Queues → Queues
reserved_all queues [] = queues
reserved_all queues (e ∷ es) = reserved_all (reserved queues e.0) es

-- the queues in which something waits
abbrev pub nonempty_of : Queues → Queues
nonempty_of queues = filter (λ e. waits e.1) queues

-- each path of these has a queue
abbrev pub HasRoom : Queues → Queues → Type 0
HasRoom queues es = AllByRecursion (λ e. is_some (queue_at queues e.0) ≡ true) es

-- the path below t, if nothing is at the same place below f
abbrev pub stale_one : Queues → PathValue → PathValue → PathValue → List PathValue
stale_one queues f t path = if is_some (queue_at queues (relocated t f path)) then [] else path ∷ []

-- the paths of these queues that have nothing at the same place below f
abbrev pub stale_in : Queues → PathValue → PathValue → Queues → List PathValue
stale_in queues f t [] = []
stale_in queues f t (e ∷ es) = if is_some (queue_at queues (relocated t f e.0)) then stale_in queues f t es
    else e.0 ∷ stale_in queues f t es

-- the paths of the queues strictly below t to which nothing is moved from below f
abbrev pub stale : Queues → PathValue → PathValue → List PathValue
stale queues f t = stale_in queues f t (below_of queues t)

-- the queues without those of these paths
abbrev pub without_queues : Queues → List PathValue → Queues
without_queues queues [] = queues
without_queues queues (p ∷ ps) = without_queues (without_queue queues p) ps
