use Rattle.std.proofs.Common.{refl}
use Rattle.std.proofs.lemmas.Result.{on_ok_weaker}
use Rattle.document_index.proofs.indexer.Indexer.begin.Goals as goal

pub returns : goal.returns
returns g c = record {
  begun = on_ok_weaker c.take_batch.result
      (λ taken. (c.in_ok-batch.ensures.0, rw (c.as_slice.ensures.value, c.in_ok-batch.ensures.1) at taken))
      c.take_batch.ensures.taken;
  same = refl;
}
