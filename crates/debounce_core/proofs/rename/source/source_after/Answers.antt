-- The front stays if it removes.
use Rattle.debounce_core.proofs.RenameLemmas.SourceParts.{first_stays}
use Rattle.debounce_core.proofs.rename.source.source_after.Goals as goal

pub returns-in-len1-up-clause-stays : goal.returns-in-len1-up-clause-stays
returns-in-len1-up-clause-stays g c =
    (first_stays c.args.events.now c.first-item.result c.in-len1-up.len_at_least c.first-item.is c.kind.ensures
    c.removes.ensures c.if-removes.true).0

pub returns-in-len1-up-clause-moving : goal.returns-in-len1-up-clause-moving
returns-in-len1-up-clause-moving g c =
    (first_stays c.args.events.now c.first-item.result c.in-len1-up.len_at_least c.first-item.is c.kind.ensures
    c.removes.ensures c.if-removes.true).1
