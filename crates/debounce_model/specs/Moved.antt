-- The joined rename takes along what waits below its old path: a renamed folder takes the events of its files.
use Rattle.std.specs.Prelude.{ℕ, max, Bool, not, ◌&&◌, List, [], ◌∷◌, ◌++◌, take, drop, map, filter, if◌then◌else◌}
use Rattle.notify_types.specs.Event.{Timed, AttributesValue}
use Rattle.notify_paths.specs.Path.{PathValue, is_prefix, is_below}
use Rattle.notify_paths.specs.PathMoves.{relocated}
use Rattle.debounce_model.specs.Queues.{Queues, with_queue, without_below, events_at}
use Rattle.debounce_model.specs.Rename.{without_last, is_both, first_both, original_time, joined_halves}

-- neither path lies at or below the other
abbrev pub are_apart : PathValue → PathValue → Bool
are_apart f t = not (is_prefix f t) && not (is_prefix t f)

-- a path after a rename from f to t: what lies strictly below f goes along
abbrev pub moved_path : PathValue → PathValue → PathValue → PathValue
moved_path f t path = if is_below path f then relocated f t path else path

-- how many paths of an event a rename moves: the first one, of a joined rename also the second
abbrev pub moved_count : Timed → ℕ
moved_count x = if is_both x then 2 else 1

-- these paths after a rename from f to t, which moves the first n
abbrev pub moved_paths : PathValue → PathValue → ℕ → List PathValue → List PathValue
moved_paths f t n paths = map (moved_path f t) (take n paths) ++ drop n paths

-- an event that goes along: it keeps its kind and its attributes, and is no older than the rename
abbrev pub moved_event : PathValue → PathValue → ℕ → Timed → Timed
moved_event f t time x =
    record {
      event = record x.event { paths = moved_paths f t (moved_count x) x.event.paths };
      time =
          max x.time time;
    }

-- a queue that goes along
abbrev pub moved_queue : PathValue → PathValue → ℕ → List Timed → List Timed
moved_queue f t time events = map (moved_event f t time) events

-- a queue that goes along, with its path
abbrev pub moved_entry : PathValue → PathValue → ℕ → PathValue × List Timed → PathValue × List Timed
moved_entry f t time e = (relocated f t e.0, moved_queue f t time e.1)

-- the queues strictly below the path
abbrev pub below_of : Queues → PathValue → Queues
below_of queues path = filter (λ e. is_below e.0 path) queues

-- the queues that go along, at their new paths
abbrev pub moved_below : Queues → PathValue → PathValue → ℕ → Queues
moved_below queues f t time = map (moved_entry f t time) (below_of queues f)

-- the queues with each of these at its path
abbrev pub with_queues : Queues → Queues → Queues
with_queues queues [] = queues
with_queues queues (e ∷ es) = with_queue (with_queues queues es) e.0 e.1

-- what waits strictly below t is dropped, and what waits strictly below f takes its place
abbrev pub moved : Queues → PathValue → PathValue → ℕ → Queues
moved queues f t time = with_queues (without_below (without_below queues f) t) (moved_below queues f t time)

-- the move is made if neither path lies at or below the other
abbrev pub moved_along : Queues → PathValue → PathValue → ℕ → Queues
moved_along queues f t time = if are_apart f t then moved queues f t time else queues

-- when a rename from f began, whose first half came at this time: it may go on from an earlier one
abbrev pub began : Queues → PathValue → ℕ → ℕ
began queues f time = original_time (first_both (without_last (events_at queues f))) time

-- the joined rename from f to t, of which the first half came at this time, and is what came last at f; the
-- second half has these attributes
abbrev pub joined_rename : Queues → PathValue → PathValue → ℕ → AttributesValue → Queues
joined_rename queues f t time attrs =
    moved_along (joined_halves queues f t time attrs) f t (began queues f time)
