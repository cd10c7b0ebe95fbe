use Rattle.std.proofs.Common.{◌≡◌, ◌++◌, drop}
use Rattle.debounce_model.specs.Play.{events_of}
use Rattle.reader_paths.specs.Plan.{look_at, removals}
use Rattle.reader_paths.proofs.plan.planning.push_removals.Given as goal

-- the actions so far, and what the events that are left ask for, are all
abbrev pub invariant-loop-event : goal.invariant-loop-event
invariant-loop-event g l =
    l.actions.items ++ removals (look_at l.standing.entries) (events_of (drop l.event-index l.batch))
    ≡ l.fn.actions.items ++ removals (look_at l.standing.entries) (events_of l.batch)
