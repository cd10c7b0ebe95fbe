-- A joined rename in the steps of the code: words for the contracts of its private functions. No definition of what a
-- debouncer does cites them.
use Rattle.std.specs.Prelude.{◌≡◌, ℕ, Bool, not, ◌&&◌, List, [], ◌∷◌, ◌++◌, Option, Some, None, is_some, option_copied, if◌then◌else◌}
use Rattle.notify_types.specs.Event.{Timed, AttributesValue}
use Rattle.notify_paths.specs.Path.{PathValue, path_eq}
use Rattle.debounce_model.specs.MapSteps.{before_half, left_at, queue_of, stale}
use Rattle.debounce_model.specs.Moved.{are_apart, moved_below}
use Rattle.debounce_model.specs.Queues.{Queues, queue_at, without_queue}
use Rattle.debounce_model.specs.Rename.{arrived, first_both, moving, staying, without_both, without_last}
use Rattle.debounce_core.specs.declared.rename.Rename.{Rename}
use Rattle.debounce_core.specs.declared.rename.source.Source.{Source}
use Rattle.debounce_core.specs.Rename.Renames.{arrived_by}

-- the event that stays at the source f, if one does
abbrev pub stays_of : Queues → PathValue → Option Timed
stays_of queues f = staying (without_both (before_half queues f))

-- an event stays there
abbrev pub kept_at : Queues → PathValue → Bool
kept_at queues f = is_some (stays_of queues f)

module _ {Z : Type 0} where
  -- what waits at the source, taken apart: the earlier joined rename, the event that stays, those that go along
  abbrev pub IsSourceOf : List Timed → Source Z → Type 0
  IsSourceOf waited source =
      let events = without_last waited in
      (option_copied source.earlier ≡ first_both events)
      × (option_copied source.stays ≡ staying (without_both events))
      × (source.moving.now ≡ moving (without_both events))

-- the queue of what stays at f, with its path
abbrev pub staying_at : PathValue → Option Timed → Queues
staying_at f None = []
staying_at f (Some x) = (f, x ∷ []) ∷ []

-- what then waits at the target t
abbrev pub arrived_at : Queues → PathValue → PathValue → ℕ → AttributesValue → List Timed
arrived_at queues f t time attrs =
    arrived (before_half queues f) (queue_at (left_at queues f) t) f t time attrs

-- the queues that are put at the two paths
abbrev pub puts_at_two : Queues → PathValue → PathValue → ℕ → AttributesValue → Queues
puts_at_two queues f t time attrs = (t, arrived_at queues f t time attrs) ∷ staying_at f (stays_of queues f)

-- those that go along, if neither path lies at or below the other, after a rename that began at this time
abbrev pub going_at : Queues → PathValue → PathValue → ℕ → Queues
going_at queues f t start = if are_apart f t then moved_below queues f t start else []

module _ {Z : Type 0} where
  -- what a rename of this source puts, if this waited at its target and these go along
  abbrev pub IsPuts : Source Z → Option (List Timed) → Rename Z → Queues → Queues → Type 0
  IsPuts source waited rename going puts =
      let f = rename.from.now in
      let t = rename.to.now in
      (events : List Timed) → option_copied source.stays ≡ staying events →
      puts ≡ ((t, arrived_by source (if path_eq f t then queue_of (staying events) else waited) rename)
      ∷ staying_at f (option_copied source.stays)) ++ going

-- the paths below t to which nothing is moved, if something may be
abbrev pub stale_at : Queues → PathValue → PathValue → List PathValue
stale_at queues f t = if are_apart f t then stale queues f t else []

-- the queues without that of the source f, unless an event stays there, or it is the target t
abbrev pub left_by : Queues → PathValue → PathValue → Bool → Queues
left_by queues f t stays = if not stays && not (path_eq f t) then without_queue queues f else queues
