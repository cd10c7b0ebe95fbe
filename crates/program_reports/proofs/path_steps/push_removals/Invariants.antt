use Rattle.std.proofs.Common.{◌≡◌, ◌++◌, drop, map}
use Rattle.reader_paths.specs.Plan.Naming.{removing}
use Rattle.debounce_model.specs.Play.{events_of}
use Rattle.program_reports.specs.PathSteps.{removed}
use Rattle.program_reports.proofs.path_steps.push_removals.Given as goal

-- the steps so far, and the removals of the events that are left, are all
abbrev pub invariant-loop-event : goal.invariant-loop-event
invariant-loop-event l = l.steps.items ++ map removing (removed (events_of (drop l.event-index l.batch)))
    ≡ l.fn.steps.items ++ map removing (removed (events_of l.batch))
