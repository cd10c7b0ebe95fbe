use Rattle.std.proofs.Common.{subst, sym}
use Rattle.debounce_model.specs.Play.{events_of}
use Rattle.program_copy.specs.Moving.{AreAlone, MakesMoves}
use Rattle.program_copy.proofs.mirror.Mirror.make_moves.Goals as goal

pub returns-clause-made : goal.returns-clause-made
returns-clause-made g c =
    subst (λ kept. MakesMoves g.C.FolderAndCopy.sees g.C.FolderAndCopy.moves (events_of c.args.batch.now)
    c.args.self.now.kept.copy c.args.self.now.kept.copied kept.copy kept.copied) (sym c.keep_moves.ensures.same)
    (c.in_ok-moves.moves, c.in_ok-moves.ensures, c.in_ok-left.ensures.sorted, c.in_ok-left.ensures.made)

pub returns-clause-others : goal.returns-clause-others
returns-clause-others g c =
    subst (λ kept. AreAlone (events_of c.args.batch.now) (events_of c.in_ok-left.left.items)
    c.args.self.now.kept.copied kept.copied) (sym c.keep_moves.ensures.same)
    (c.in_ok-moves.moves, c.in_ok-moves.ensures, c.in_ok-left.ensures.others)
