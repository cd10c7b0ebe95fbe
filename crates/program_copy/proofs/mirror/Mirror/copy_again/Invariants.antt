use Rattle.std.proofs.Common.{◌≡◌}
use Rattle.program_copy.proofs.mirror.Mirror.copy_again.Given as goal

-- the copy is as it was
abbrev pub invariant-loop-path : goal.invariant-loop-path
invariant-loop-path g l = l.self.kept ≡ l.fn.self.kept
