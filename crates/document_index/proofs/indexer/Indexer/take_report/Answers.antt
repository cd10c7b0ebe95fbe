use Rattle.std.proofs.Common.{refl}
use Rattle.std.proofs.lemmas.Result.{on_ok_weaker}
use Rattle.document_index.proofs.indexer.Indexer.take_report.Goals as goal

pub returns-in-Ok-clause-taken : goal.returns-in-Ok-clause-taken
returns-in-Ok-clause-taken g c = on_ok_weaker c.take_batch.result
    (λ taken. rw c.in-Ok.is (c.take_batch.new.self.kept.index, rw c.as_slice.ensures.value at taken, refl))
    c.take_batch.ensures.taken
