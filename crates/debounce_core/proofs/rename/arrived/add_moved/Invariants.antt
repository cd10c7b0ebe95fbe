use Rattle.std.proofs.Common.{◌≡◌, ◌++◌, map, take}
use Rattle.debounce_model.specs.Rename.{at_path}
use Rattle.debounce_core.proofs.rename.arrived.add_moved.Given as goal

abbrev pub invariant-loop-event : goal.invariant-loop-event
invariant-loop-event g l =
    l.queue.items ≡ l.fn.queue.items ++ map (at_path l.path) (take l.event-index l.events)
