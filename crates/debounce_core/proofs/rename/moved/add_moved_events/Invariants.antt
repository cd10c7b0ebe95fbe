use Rattle.std.proofs.Common.{◌≡◌, ◌++◌, map, take}
use Rattle.debounce_model.specs.Moved.{moved_event}
use Rattle.debounce_core.proofs.rename.moved.add_moved_events.Given as goal

abbrev pub invariant-loop-event : goal.invariant-loop-event
invariant-loop-event g l =
    l.list.items ≡ l.fn.list.items ++ map (moved_event l.from l.to l.time) (take l.event-index l.events)
