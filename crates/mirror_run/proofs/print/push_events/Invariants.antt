use Rattle.std.proofs.Common.{◌≡◌, ◌++◌, drop}
use Rattle.std.specs.String.{string_bytes}
use Rattle.mirror_run.specs.Printed.{event_lines}
use Rattle.mirror_run.proofs.print.push_events.Given as goal

-- what is written so far, and then the lines that are left
abbrev pub invariant-loop-event : goal.invariant-loop-event
invariant-loop-event g l = string_bytes l.text ++ event_lines l.fn.word (drop l.event-index l.events)
    ≡ string_bytes l.fn.text ++ event_lines l.fn.word l.fn.events
