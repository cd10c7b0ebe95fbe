use Rattle.program_copy.proofs.MovingLemmas.{asked_moved, others_moved}
use Rattle.program_copy.proofs.kept.Kept.move_over.Goals as goal

pub returns-clause-asked : goal.returns-clause-asked
returns-clause-asked g c =
    asked_moved g.C.FolderAndCopy.moves c.args.found.now _ _ _ _ _ _ c.is_moved-moved.ensures.moves
    c.carry_if.ensures.same c.is_moved-moved.ensures.same c.in_ok-carry_if.ensures.both

pub returns-clause-others : goal.returns-clause-others
returns-clause-others g c = others_moved _ _ _ _ _ _ _ c.is_moved-moved.ensures.same c.in_ok-carry_if.ensures.others
