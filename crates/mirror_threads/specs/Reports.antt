-- What a watch prints of what a debouncer emits, and of what waits in it at the end.
use Rattle.std.specs.Prelude.{◌≡◌, ◌++◌, ℕ, List, Result, Ok, Err, codes}
use Rattle.std.specs.declared.vec.Vec.{Vec}
use Rattle.notify_types.specs.declared.event.DebouncedEvent.{DebouncedEvent}
use Rattle.notify_types.specs.Event.{Timed}
use Rattle.notify_paths.specs.declared.error.Error.{Error}
use Rattle.debounce_model.specs.State.{State}
use Rattle.debounce_model.specs.Tick.{IsOutlook}
use Rattle.mirror_run.specs.Printed.{event_lines, error_lines}

-- a line for each event of a batch, or for each error
abbrev pub report_lines : {Z : Type 0} → Result (Vec (DebouncedEvent Z) Z) (Vec (Error Z) Z) → List ℕ
report_lines (Ok batch) = event_lines (codes "event") batch.items
report_lines (Err errors) = error_lines errors.items

-- what waits in this state is added to the text: a line for each event of the outlook, then one for each error
abbrev pub AddsRest : State → List ℕ → List ℕ → Type 0
AddsRest s old new =
    (rest : List Timed) × IsOutlook s rest
    × (new ≡ (old ++ event_lines (codes "event") rest) ++ error_lines s.errors)
