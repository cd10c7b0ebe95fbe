use Rattle.program_copy.proofs.MovingLemmas.{others_none}
use Rattle.program_copy.proofs.kept.Kept.make_if.Goals as goal

pub returns-then-not-due-clause-others : goal.returns-then-not-due-clause-others
returns-then-not-due-clause-others g c = others_none _ _ _ _
