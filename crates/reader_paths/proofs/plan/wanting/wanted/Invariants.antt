use Rattle.std.proofs.Common.{◌≡◌, drop}
use Rattle.std.specs.Map.{keys_of}
use Rattle.debounce_model.specs.Play.{events_of}
use Rattle.reader_paths.specs.Plan.{wanted_from, wanted}
use Rattle.reader_paths.proofs.plan.wanting.wanted.Given as goal

-- what the events that are left make of the paths so far is what all want
abbrev pub invariant-loop-event : goal.invariant-loop-event
invariant-loop-event g l = wanted_from (keys_of l.paths.entries) (events_of (drop l.event-index l.batch))
    ≡ wanted (events_of l.batch)
