use Rattle.std.proofs.Common.{◌≡◌}
use Rattle.std.specs.Vec.{vec_len}
use Rattle.debounce_model.specs.Moved.{with_queues}
use Rattle.debounce_model.specs.MapSteps.{HasRoom}
use Rattle.debounce_queues.proofs.room.set_all.Given as goal

-- with the others set, all are; and there is room for them
abbrev pub invariant-loop-path : goal.invariant-loop-path
invariant-loop-path g l = record {
  set : with_queues l.map.entries l.queues.items ≡ with_queues l.initial.map.entries l.initial.queues.items;
  room : HasRoom l.map.entries l.queues.items;
}

abbrev pub decreases-loop-path : goal.decreases-loop-path
decreases-loop-path g l = vec_len l.queues
