-- The index of the queues: for each queue the time of its front, with its path.
use Rattle.std.specs.Prelude.{◌≡◌, ℕ, ◌==◌, Bool, false, Option, Some, None, List, [], ◌∷◌}
use Rattle.std.specs.Ordering.{nat_cmp, ordering_then}
use Rattle.std.specs.BTreeSet.{BTreeSet, contains}
use Rattle.std.specs.declared.cmp.Ordering.{Ordering}
use Rattle.std.specs.List.{AllByRecursion}
use Rattle.notify_types.specs.Event.{Timed}
use Rattle.notify_paths.specs.Path.{PathValue, path_cmp}
use Rattle.debounce_model.specs.Queues.{Queues, queue_at}
use Rattle.debounce_model.specs.WellFormed.{IsNonempty}

-- the time of the first event
abbrev pub front_time : List Timed → Option ℕ
front_time [] = None
front_time (x ∷ xs) = Some x.time

-- the time of the front of a queue, if there is one
abbrev pub front_of : Option (List Timed) → Option ℕ
front_of None = None
front_of (Some events) = front_time events

-- there is a time, and it is this one
abbrev pub is_time : Option ℕ → ℕ → Bool
is_time None t = false
is_time (Some s) t = s == t

-- the queue of the path has its front at this time
abbrev pub is_front : Queues → ℕ → PathValue → Bool
is_front queues t p = is_time (front_of (queue_at queues p)) t

-- the order of the index: newer fronts first, then by the path
abbrev pub front_cmp : ℕ × PathValue → ℕ × PathValue → Ordering
front_cmp x y = ordering_then (nat_cmp y.0 x.0) (path_cmp x.1 y.1)

-- a set of such pairs
abbrev pub FrontSet : Type 0
FrontSet = BTreeSet (ℕ × PathValue)

-- the index has this pair
abbrev pub has : FrontSet → ℕ → PathValue → Bool
has fronts t p = contains front_cmp fronts (t, p)

-- the index has the front of each queue and nothing else, and no queue is empty
pub record IsIndexed (fronts : FrontSet) (queues : Queues) : Type 0 where
  pub exact : (t : ℕ) (p : PathValue) → has fronts t p ≡ is_front queues t p
  pub filled : AllByRecursion (λ e. IsNonempty e.1) queues
