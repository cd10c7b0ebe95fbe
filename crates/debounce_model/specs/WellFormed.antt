-- What each state keeps: the laws of its queues, and the bound of its counts.
use Rattle.std.specs.Prelude.{◌≡◌, ◌+◌, ◌≤◌, false, List, [], ◌∷◌, drop, if◌then◌else◌}
use Rattle.std.specs.List.{AllByRecursion}
use Rattle.std.specs.List.Sorted.{IsStrictlySortedBy}
use Rattle.std.specs.Map.{keys_of}
use Rattle.notify_types.specs.Event.{Timed}
use Rattle.notify_types.specs.Kinds.{is_removal}
use Rattle.notify_paths.specs.Path.{PathValue, path_cmp}
use Rattle.debounce_model.specs.Queues.{Queues}
use Rattle.debounce_model.specs.Rename.{is_both}
use Rattle.debounce_model.specs.State.{State, waiting}

-- the first of these paths is this one
abbrev pub IsFirst : PathValue → List PathValue → Type 0
IsFirst path [] = ⊥
IsFirst path (p ∷ ps) = p ≡ path

-- the paths of an event from the one on by which it is kept: a joined rename is kept by its second path
abbrev pub kept_by : Timed → List PathValue
kept_by x = if is_both x then drop 1 x.event.paths else x.event.paths

-- each event of a queue is kept by the queue's path
abbrev pub IsKeyed : PathValue → List Timed → Type 0
IsKeyed path events = AllByRecursion (λ x. IsFirst path (kept_by x)) events

-- there is an event
abbrev pub IsNonempty : List Timed → Type 0
IsNonempty [] = ⊥
IsNonempty (x ∷ xs) = Unit {0}

-- no event is a joined rename
abbrev pub HasNoBoth : List Timed → Type 0
HasNoBoth events = AllByRecursion (λ x. is_both x ≡ false) events

-- at most one event is a joined rename, and it is the first, or the second after a removal: none follows the first
-- event, and if that is a removal none follows the second
abbrev pub IsBothInFront : List Timed → Type 0
IsBothInFront [] = Unit {0}
IsBothInFront (x ∷ xs) = HasNoBoth (if is_removal x.event.kind then drop 1 xs else xs)

-- the queue of a path
abbrev pub IsQueue : PathValue → List Timed → Type 0
IsQueue path events = IsNonempty events × IsKeyed path events × IsBothInFront events

-- each queue is one of its path
abbrev pub AreQueues : Queues → Type 0
AreQueues queues = AllByRecursion (λ e. IsQueue e.0 e.1) queues

-- the queues are a map of such queues, and no more events wait than were taken and not given out
pub record IsWellFormed (s : State) : Type 0 where
  pub queues : AreQueues s.queues
  pub ordered : IsStrictlySortedBy path_cmp (keys_of s.queues)
  pub bounded : waiting s + s.given ≤ s.taken
