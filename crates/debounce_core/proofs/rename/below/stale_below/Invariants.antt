use Rattle.std.proofs.Common.{◌≡◌, ◌++◌}
use Rattle.notify_paths.proofs.Prefixes.{entries_behind, run_below}
use Rattle.debounce_model.specs.MapSteps.{stale_in}
use Rattle.debounce_core.proofs.rename.below.stale_below.Given as goal

-- the list goes on by what is left of the run
abbrev pub invariant-loop-path : goal.invariant-loop-path
invariant-loop-path g l =
    l.list.items ++ stale_in l.queues.entries l.from l.to (run_below l.to l.path-iterator)
    ≡ stale_in l.queues.entries l.from l.to (run_below l.to (entries_behind l.to l.queues.entries))
