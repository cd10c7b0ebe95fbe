use Rattle.std.proofs.Common.{inr}
use Rattle.program_frame.proofs.program.run_with_words.Goals as goal

pub returns-in-Ok : goal.returns-in-Ok
returns-in-Ok g c = record { status = inr (_, _, _, c.line.ensures, c.run_words.ensures) }
