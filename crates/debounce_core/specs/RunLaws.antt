-- Runs that a caller makes call by call: how they go on, and what holds of them.
use Rattle.std.specs.Prelude.{◌≡◌, ℕ, true, false, List, [], ◌∷◌, ◌++◌, None}
use Rattle.notify_types.specs.Event.{Timed}
use Rattle.debounce_model.specs.Cache.{Rules}
use Rattle.debounce_model.specs.Command.{CommandValue, TickCommand, ReplyValue, BatchReply}
use Rattle.debounce_model.specs.Flood.{FloodsNowhere}
use Rattle.debounce_model.specs.Founded.{IsNoneInvented}
use Rattle.debounce_model.specs.Kept.{has_rename, is_kept}
use Rattle.debounce_model.specs.PathsLaw.{LeavesRawPaths}
use Rattle.debounce_model.specs.Run.{Step, Run}
use Rattle.debounce_model.specs.Soon.{IsEachYoung, is_soon}
use Rattle.debounce_model.specs.State.{Core, waiting}
use Rattle.debounce_model.specs.Tick.{is_due}
use Rattle.debounce_model.specs.WellFormed.{IsWellFormed}

module _ {C : Type 0} where
  -- a run and one more step are a run
  abbrev pub RunsGoOn : Rules C → Type 0
  RunsGoOn r =
      (s m t : Core C) (commands : List CommandValue) (replies : List ReplyValue)
      (command : CommandValue) (reply : ReplyValue) →
      Run r s commands replies m →
      Step r m command reply t →
      Run r s (commands ++ command ∷ []) (replies ++ reply ∷ []) t

  -- a run without renames, from where nothing waits, loses no change
  abbrev pub RunsLoseNoChange : Rules C → Type 0
  RunsLoseNoChange r =
      (s t : Core C) (commands : List CommandValue) (replies : List ReplyValue) →
      Run r s commands replies t →
      waiting s.state ≡ 0 →
      has_rename commands replies ≡ false →
      is_kept commands replies t.state ≡ true

  -- a run from where nothing waits gives a reader the raw paths
  abbrev pub RunsGiveRawPaths : Rules C → Type 0
  RunsGiveRawPaths r =
      (s t : Core C) (commands : List CommandValue) (replies : List ReplyValue) →
      Run r s commands replies t →
      IsWellFormed s.state →
      waiting s.state ≡ 0 →
      LeavesRawPaths commands replies t.state

  -- a run from where nothing waits, and no first half of a rename is kept, invents no joined rename
  abbrev pub RunsInventNoRename : Rules C → Type 0
  RunsInventNoRename r =
      (s t : Core C) (commands : List CommandValue) (replies : List ReplyValue) →
      Run r s commands replies t →
      waiting s.state ≡ 0 →
      s.state.rename_slot ≡ None →
      IsNoneInvented commands replies t.state

  -- a run from where nothing waits emits no flood, and no more than was accepted
  abbrev pub RunsFloodNowhere : Rules C → Type 0
  RunsFloodNowhere r =
      (s t : Core C) (commands : List CommandValue) (replies : List ReplyValue) →
      Run r s commands replies t →
      IsWellFormed s.state →
      waiting s.state ≡ 0 →
      FloodsNowhere commands replies t.state

  -- a run without renames, from where nothing waits, emits each change by the first tick at which it is as old as the
  -- timeout
  abbrev pub RunsEmitSoon : Rules C → Type 0
  RunsEmitSoon r =
      (s t : Core C) (commands : List CommandValue) (replies : List ReplyValue) →
      Run r s commands replies t →
      waiting s.state ≡ 0 →
      has_rename commands replies ≡ false →
      is_soon s.state.timeout s.state.latest commands replies ≡ true

  -- after a tick nothing is due at its moment: the first event at each path is younger than the timeout
  abbrev pub TicksLeaveNothingDue : Rules C → Type 0
  TicksLeaveNothingDue r =
      (s t : Core C) (now : ℕ) (batch : List Timed) →
      Step r s (TickCommand now) (BatchReply batch) t →
      is_due t.state now ≡ false

  -- after a run without renames, from where nothing waits, and a tick, so is each event
  abbrev pub TicksLeaveYoung : Rules C → Type 0
  TicksLeaveYoung r =
      (s m t : Core C) (commands : List CommandValue) (replies : List ReplyValue) (now : ℕ) (batch : List Timed) →
      Run r s commands replies m →
      Step r m (TickCommand now) (BatchReply batch) t →
      waiting s.state ≡ 0 →
      has_rename commands replies ≡ false →
      IsEachYoung t.state
