use Rattle.debounce_model.proofs.RenameLemmas.{in_front-take}
use Rattle.debounce_core.proofs.rename.source.source_at.Goals as goal

pub source_of-requires : goal.source_of-requires
source_of-requires g c = rw (c.without_last.ensures, c.events_of.ensures) (in_front-take _ _ c.requires)
