use Rattle.std.proofs.Common.{◌≡◌}
use Rattle.notify_paths.specs.Below.{without_below}
use Rattle.notify_paths.proofs.below.remove_below.Given as goal

-- what isn't below the path stays
abbrev pub invariant-loop-step : goal.invariant-loop-step
invariant-loop-step g l = without_below l.map.entries l.path ≡ without_below l.initial.map.entries l.path
