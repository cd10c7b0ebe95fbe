use Rattle.debounce_model.specs.Play.{events_of}
use Rattle.program_copy.proofs.MovingLemmas.{moves_alone}
use Rattle.program_copy.proofs.mirror.Mirror.make_all.Goals as goal

pub returns-clause-others : goal.returns-clause-others
returns-clause-others g c =
    moves_alone c.args.moves.now (events_of c.args.batch.now) c.in_ok-sources.sources.entries
    c.args.self.now.kept.copied
    _ _ _ c.in_ok-sources.ensures c.in_ok-make_each.ensures.others
