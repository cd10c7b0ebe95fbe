use Rattle.std.proofs.Common.{◌≡◌}
use Rattle.program_frame.proofs.ends.write_errors.Given as goal

-- before the first error nothing was written
abbrev pub invariant-loop-error : goal.invariant-loop-error
invariant-loop-error g l = l.error-index ≡ 0 → g.E.Write.contents l.err ≡ g.E.Write.contents l.fn.err
