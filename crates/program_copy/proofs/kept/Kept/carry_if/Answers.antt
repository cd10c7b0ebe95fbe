use Rattle.program_copy.proofs.MovingLemmas.{others_none}
use Rattle.program_copy.proofs.kept.Kept.carry_if.Goals as goal

pub returns-then-not-moved-clause-others : goal.returns-then-not-moved-clause-others
returns-then-not-moved-clause-others g c = others_none _ _ _ _
