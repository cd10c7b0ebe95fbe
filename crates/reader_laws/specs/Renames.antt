-- What waits below a renamed folder.
use Rattle.std.specs.Prelude.{◌≡◌, ℕ, true, List, Some}
use Rattle.notify_types.specs.Event.{Timed, AttributesValue}
use Rattle.notify_paths.specs.Path.{PathValue, is_below}
use Rattle.notify_paths.specs.PathMoves.{relocated}
use Rattle.debounce_model.specs.Moved.{are_apart, began, moved_queue, joined_rename}
use Rattle.debounce_model.specs.Queues.{Queues, queue_at}

-- what waits strictly below f waits, after the joined rename from f to t, at the same place below t
abbrev pub KeepsWhatIsBelow : Type 0
KeepsWhatIsBelow =
    (queues : Queues) (f t : PathValue) (time : ℕ) (attrs : AttributesValue) (path : PathValue)
    (events : List Timed) →
    are_apart f t ≡ true →
    is_below path f ≡ true →
    queue_at queues path ≡ Some events →
    queue_at (joined_rename queues f t time attrs) (relocated f t path)
    ≡ Some (moved_queue f t (began queues f time) events)
