use Rattle.std.proofs.Common.{◌≡◌, ◌+◌, ◌-◌, ◌^◌, ◌≤◌, length, min}
use Rattle.poll_watcher.specs.Roots.Deep.{too_deep}
use Rattle.poll_watcher.proofs.roots.deep.count_too_deep.Given as goal

-- what is counted, and what is left to be, as far as can be counted
abbrev pub invariant-loop-path : goal.invariant-loop-path
invariant-loop-path g l =
    (min (l.count + length (too_deep l.roots l.path-iterator)) (2 ^ 64 - 1)
    ≡ min (length (too_deep l.roots l.last)) (2 ^ 64 - 1)) × (l.count ≤ 2 ^ 64 - 1)
