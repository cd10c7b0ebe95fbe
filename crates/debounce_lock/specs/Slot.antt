-- A slot, and the history of what was put into it.
use Rattle.std.specs.Prelude.{◌≡◌, List, ◌++◌, Option}
use Rattle.std.specs.Option.{option_to_list}
use Rattle.atomic_table.specs.Seated.{TableId}

module _ {T : Type 0} where
  -- what was put in came out, or lies in the slot
  abbrev pub IsHeld : Option T → List T → List T → Type 0
  IsHeld held out log = out ++ option_to_list held ≡ log

  -- what lies in the slot now was put in
  abbrev pub PutsIn : Option T → List T → List T → List T → List T → Type 0
  PutsIn held before out after now = (after ≡ before ++ option_to_list held) × (now ≡ out)

-- that a slot was filled: which one, and with what
pub record Filling (T : Type 0) : Type 0 where
  pub slot : TableId
  pub value : T
