use Rattle.std.proofs.Common.{◌≡◌, drop}
use Rattle.debounce_model.specs.MapSteps.{without_queues}
use Rattle.debounce_queues.proofs.queues.IndexedQueues.take_out_all.Given as goal

-- without the others none of them is left
abbrev pub invariant-loop-path : goal.invariant-loop-path
invariant-loop-path g l =
    without_queues l.self (drop l.path-index l.paths) ≡ without_queues l.initial.self l.paths
