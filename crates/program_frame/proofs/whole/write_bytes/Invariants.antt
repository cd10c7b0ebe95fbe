use Rattle.program_frame.specs.Whole.Output.{WritesUpTo}
use Rattle.program_frame.proofs.whole.write_bytes.Given as goal

-- what is gone from the rest was written
abbrev pub invariant-loop : goal.invariant-loop
invariant-loop g l = WritesUpTo l.rest (g.O.Write.contents l.fn.out) l.fn.bytes (g.O.Write.contents l.out)
