use Rattle.std.proofs.lemmas.Result.{on_ok_weaker}
use Rattle.document_index.proofs.indexer.Indexer.take_batch.Goals as goal

pub returns : goal.returns
returns g c = record {
  taken = on_ok_weaker c.read_anew_if.result
      (λ anew. (_, c.in_ok-take_batch.ensures.taken, rw c.asks_anew.ensures at anew)) c.read_anew_if.ensures.anew;
  same = c.read_anew_if.ensures.same;
}
