use Rattle.document_index.proofs.serve.Goals as goal

pub returns-then-all : goal.returns-then-all
returns-then-all g c = record { served = rw c.end.ensures.same (rw c.if-all.true at c.in_ok-all.ensures.served) }
