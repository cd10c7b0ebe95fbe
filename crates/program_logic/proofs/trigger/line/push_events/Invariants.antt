use Rattle.std.proofs.Common.{◌≡◌, ◌++◌, drop}
use Rattle.program_logic.specs.Trigger.Line.{event_fields}
use Rattle.program_logic.proofs.trigger.line.push_events.Given as goal

-- what is written so far, and then the fields of the events that are left
abbrev pub invariant-loop-event : goal.invariant-loop-event
invariant-loop-event l = l.line.items ++ event_fields l.folder (drop l.event-index l.events)
    ≡ l.fn.line.items ++ event_fields l.folder l.fn.events
