use Rattle.std.proofs.Common.{◌≡◌, drop}
use Rattle.std.specs.List.{list_any}
use Rattle.poll_watcher.specs.Roots.Deep.{ends, levels_below}
use Rattle.poll_watcher.proofs.roots.deep.one_ends.Given as goal

-- the roots that are left decide
abbrev pub invariant-loop-root : goal.invariant-loop-root
invariant-loop-root g l = list_any (λ root. ends root.1 (levels_below root l.path)) (drop l.root-index l.roots)
    ≡ list_any (λ root. ends root.1 (levels_below root l.path)) l.roots
