-- What a handler is called with.
use Rattle.std.specs.Prelude.{◌≡◌, List, [], ◌∷◌, Result}
use Rattle.std.specs.declared.vec.Vec.{Vec}
use Rattle.notify_paths.specs.Errors.{ErrorValue}
use Rattle.notify_types.specs.Event.{Timed}

-- a batch, or errors
abbrev pub Outcome : Type 0 → Type 0
Outcome A = Result (Vec Timed A) (Vec ErrorValue A)

-- the handler was called with each of these, in order
abbrev pub IsCalledWith : {H X : Type 0} → (H → X → H → Type 0) → List X → H → H → Type 0
IsCalledWith handles [] before after = after ≡ before
IsCalledWith {H} handles (item ∷ items) before after =
    (between : H) × handles before item between × IsCalledWith handles items between after

-- the handler was called, however often, and nothing else was done to it
abbrev pub IsCalledOn : {H X : Type 0} → (H → X → H → Type 0) → H → H → Type 0
IsCalledOn {H} {X} handles before after = (items : List X) × IsCalledWith handles items before after
