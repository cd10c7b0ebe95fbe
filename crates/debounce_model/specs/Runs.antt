-- What is promised of whole runs, over the commands and replies of the code.
use Rattle.std.specs.Prelude.{◌≡◌, true, false, List, None}
use Rattle.debounce_model.specs.declared.command.Command.{Command}
use Rattle.debounce_model.specs.declared.command.Reply.{Reply}
use Rattle.debounce_model.specs.Cache.{Rules}
use Rattle.debounce_model.specs.CommandView.{command_values, reply_values}
use Rattle.debounce_model.specs.Flood.{FloodsNowhere}
use Rattle.debounce_model.specs.Founded.{IsNoneInvented}
use Rattle.debounce_model.specs.Kept.{has_rename, is_kept}
use Rattle.debounce_model.specs.PathsLaw.{LeavesRawPaths}
use Rattle.debounce_model.specs.Run.{Run}
use Rattle.debounce_model.specs.Soon.{is_soon}
use Rattle.debounce_model.specs.State.{State, Core, waiting}

module _ {Z : Type 0} where
  -- one reply a command, each with a step
  abbrev pub IsRun : {C : Type 0} → Rules C → Core C → List (Command Z) → List (Reply Z) → Core C → Type 0
  IsRun r s commands replies t = Run r s (command_values commands) (reply_values replies) t

  -- from s, in which nothing waits, and without renames no change is lost
  abbrev pub LosesNoChange : State → List (Command Z) → List (Reply Z) → State → Type 0
  LosesNoChange s commands replies t =
      waiting s ≡ 0 → has_rename (command_values commands) (reply_values replies) ≡ false
      → is_kept (command_values commands) (reply_values replies) t ≡ true

  -- from s, in which nothing waits, a reader has the raw paths
  abbrev pub GivesRawPaths : State → List (Command Z) → List (Reply Z) → State → Type 0
  GivesRawPaths s commands replies t =
      waiting s ≡ 0 → LeavesRawPaths (command_values commands) (reply_values replies) t

  -- from s, in which nothing waits and no first half of a rename is kept, no joined rename is invented
  abbrev pub InventsNoRename : State → List (Command Z) → List (Reply Z) → State → Type 0
  InventsNoRename s commands replies t =
      waiting s ≡ 0 → s.rename_slot ≡ None → IsNoneInvented (command_values commands) (reply_values replies) t

  -- from s, in which nothing waits, no batch is a flood, and no more is emitted than was accepted
  abbrev pub EmitsNoFlood : State → List (Command Z) → List (Reply Z) → State → Type 0
  EmitsNoFlood s commands replies t =
      waiting s ≡ 0 → FloodsNowhere (command_values commands) (reply_values replies) t

  -- from s, in which nothing waits, and without renames each change is emitted by the first tick at which it is as old
  -- as the timeout
  abbrev pub EmitsSoon : State → List (Command Z) → List (Reply Z) → Type 0
  EmitsSoon s commands replies =
      waiting s ≡ 0 → has_rename (command_values commands) (reply_values replies) ≡ false
      → is_soon s.timeout s.latest (command_values commands) (reply_values replies) ≡ true
