-- The rename slot: the first half of a rename, kept for the second.
use Rattle.std.specs.Prelude.{ℕ, ◌==◌, Bool, true, false, ◌||◌, List, ◌∷◌, Option, Some, None}
use Rattle.notify_types.specs.Event.{EventValue, Timed}
use Rattle.notify_paths.specs.Path.{PathValue}
use Rattle.debounce_model.specs.Equality.{file_id_eq}
use Rattle.debounce_model.specs.declared.file_id.FileId.{FileId}

-- the first half, and its file's number if the cache had one
pub record SlotValue : Type 0 where
  pub half : Timed
  pub number : Option FileId

-- both values are there, and they are equal
abbrev pub are_equal : {X : Type 0} → (X → X → Bool) → Option X → Option X → Bool
are_equal eq (Some a) (Some b) = eq a b
are_equal eq a b = false

-- an event is the second half if both halves have one tracker, or both files have one number
abbrev pub fits : SlotValue → EventValue → Option FileId → Bool
fits slot e number =
    are_equal (λ a b. a == b) slot.half.event.attrs.tracker e.attrs.tracker
    || are_equal file_id_eq slot.number number

-- the first of these paths with its time, if the event fits and there is one
abbrev pub half_of : Bool → List PathValue → ℕ → Option (PathValue × ℕ)
half_of true (path ∷ paths) time = Some (path, time)
half_of fits paths time = None

-- the path and the time of the first half of this event's rename, if the slot holds it
abbrev pub first_half : Option SlotValue → EventValue → Option FileId → Option (PathValue × ℕ)
first_half None e number = None
first_half (Some slot) e number = half_of (fits slot e number) slot.half.event.paths slot.half.time
