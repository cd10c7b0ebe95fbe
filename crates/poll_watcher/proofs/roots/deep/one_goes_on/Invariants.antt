use Rattle.std.proofs.Common.{◌≡◌, drop}
use Rattle.std.specs.List.{list_any}
use Rattle.poll_watcher.specs.Roots.Deep.{goes_on, levels_below}
use Rattle.poll_watcher.proofs.roots.deep.one_goes_on.Given as goal

-- the roots that are left decide
abbrev pub invariant-loop-root : goal.invariant-loop-root
invariant-loop-root g l = list_any (λ root. goes_on (levels_below root l.path)) (drop l.root-index l.roots)
    ≡ list_any (λ root. goes_on (levels_below root l.path)) l.roots
