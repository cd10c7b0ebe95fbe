-- A row of the step table, of the state's parts that wait.
use Rattle.std.specs.Prelude.{◌≡◌, Option}
use Rattle.notify_types.specs.Event.{Timed, first_of}
use Rattle.debounce_model.specs.declared.case.Case.{Case}
use Rattle.debounce_model.specs.declared.file_id.FileId.{FileId}
use Rattle.debounce_model.specs.State.{State}
use Rattle.debounce_model.specs.Table.{row}
use Rattle.debounce_core.specs.declared.table.Pending.{Pending}

module _ {Z : Type 0} where
  -- the state in which this waits, and the rest is as in s
  abbrev pub with_pending : State → Pending Z → State
  with_pending s pending = record s {
    queues = pending.queues;
    rename_slot = pending.rename_slot;
    rescan_slot = pending.rescan_slot;
  }

  -- the row of a case: what an event with this answer of the cache makes of what waits, whatever else the state has
  abbrev pub IsRow : Case → Pending Z → Timed → Option FileId → Pending Z → Type 0
  IsRow case old x answer new =
      (s : State) → with_pending s new ≡ row case (with_pending s old) x (first_of x.event.paths) answer
