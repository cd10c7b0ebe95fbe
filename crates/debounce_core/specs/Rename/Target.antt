-- What a joined rename finds at its target, as the code tells it apart.
use Rattle.std.specs.Prelude.{◌≡◌, ℕ, List, [], ◌∷◌, Option, Some, None, if◌then◌else◌}
use Rattle.notify_types.specs.Event.{Timed, no_attributes}
use Rattle.notify_paths.specs.Path.{PathValue, path_eq}
use Rattle.debounce_model.specs.MapSteps.{queue_of}
use Rattle.debounce_model.specs.Queues.{was_created, was_removed}
use Rattle.debounce_model.specs.Rename.{override_attributes, override_event, staying}
use Rattle.debounce_core.specs.declared.rename.target.Target.{Target}
use Rattle.debounce_core.specs.declared.rename.target.Target.TheVariants.{Free, Removed, Overridden}

-- by the queue that waits there
abbrev pub target_of : Option (List Timed) → Target
target_of None = Free
target_of (Some events) =
    if was_created events then Free else (if was_removed events then Removed else Overridden)

-- by the event that stays at the source, if that is the target
abbrev pub IsStayTarget : Option Timed → Target → Type 0
IsStayTarget stays target = (events : List Timed) → stays ≡ staying events →
    target ≡ target_of (queue_of (staying events))

-- by what waits at the target of a rename from f to t, at whose source this event stays
abbrev pub IsTarget : Option (List Timed) → PathValue → PathValue → Option Timed → Target → Type 0
IsTarget waited f t stays target =
    (events : List Timed) → stays ≡ staying events
    → target ≡ target_of (if path_eq f t then queue_of (staying events) else waited)

-- the removal that is reported for it
abbrev pub reported : PathValue → ℕ → Target → List Timed
reported path time Free = []
reported path time Removed = override_event path no_attributes time ∷ []
reported path time Overridden = override_event path override_attributes time ∷ []
