use Rattle.std.specs.Prelude.{◌≡◌, Bool, true}
use Rattle.document_index.specs.Answered.{Served}
use Rattle.document_index.specs.Read.{IsReadAmong}
use Rattle.document_index.proofs.ServedLemmas.{AnswersMore}
use Rattle.document_index.proofs.service.Service.answer_lines.Given as goal

-- the queries that are still answered, after those that were, are all
abbrev pub invariant-loop-line : goal.invariant-loop-line
invariant-loop-line g l = record {
  done : (all : Bool) (after : Served) →
      AnswersMore IsReadAmong l.fn.self.indexer.documents.folder l.all all
      (record { index = l.self.indexer.kept.index; out = g.O.Write.contents l.self.out }) after →
      AnswersMore IsReadAmong l.fn.self.indexer.documents.folder true all
      (record { index = l.fn.self.indexer.kept.index; out = g.O.Write.contents l.fn.self.out }) after;
  same : l.self.indexer.documents ≡ l.fn.self.indexer.documents;
}
