use Rattle.std.proofs.lemmas.Result.{on_ok_weaker}
use Rattle.document_index.proofs.indexer.Indexer.read_anew_if.Goals as goal

pub returns-then-is_asked-clause-anew : goal.returns-then-is_asked-clause-anew
returns-then-is_asked-clause-anew g c = on_ok_weaker c.read_anew.result
    (λ anew. rw c.if-is_asked.true (c.in_ok-listed.ensures.0, rw c.in_ok-listed.ensures.1 at anew))
    c.read_anew.ensures.anew
