use Rattle.reader_laws.proofs.CallersLemmas.WholeLemmas.{for_memory}
use Rattle.reader_laws.proofs.callers.whole.read_tree.Goals as goal

pub returns-clause-err : goal.returns-clause-err
returns-clause-err g c = for_memory c.finish_read.result c.finish_read.ensures.err
