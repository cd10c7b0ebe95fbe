use Rattle.std.proofs.Common.{◌≡◌, drop}
use Rattle.poll_watcher.specs.Roots.Polled.{is_watched}
use Rattle.poll_watcher.proofs.roots.polled.is_watched.Given as goal

-- the roots that are left decide
abbrev pub invariant-loop-root : goal.invariant-loop-root
invariant-loop-root g l = is_watched (drop l.root-index l.roots) l.path ≡ is_watched l.roots l.path
