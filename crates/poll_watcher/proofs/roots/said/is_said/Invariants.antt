use Rattle.std.proofs.Common.{◌≡◌, drop}
use Rattle.poll_watcher.specs.Roots.Said.{is_said}
use Rattle.poll_watcher.proofs.roots.said.is_said.Given as goal

-- the closed paths that are left decide
abbrev pub invariant-loop-other : goal.invariant-loop-other
invariant-loop-other g l = is_said (drop l.other-index l.said) (l.path, l.cause) ≡ is_said l.said (l.path, l.cause)
