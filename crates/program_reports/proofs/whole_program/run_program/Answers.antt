use Rattle.std.proofs.Common.{inr}
use Rattle.program_reports.proofs.whole_program.run_program.Goals as goal

pub returns-in-Ok-clause-run : goal.returns-in-Ok-clause-run
returns-in-Ok-clause-run g c = inr (_, _, c.line_of-line.ensures, c.run_line.ensures.run)
