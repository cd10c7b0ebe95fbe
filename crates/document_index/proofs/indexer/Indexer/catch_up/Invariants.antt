use Rattle.std.specs.Prelude.{◌≡◌}
use Rattle.document_index.specs.Read.{IsReadAmong}
use Rattle.program_logic.specs.Words.Index.{IndexValue}
use Rattle.program_logic.specs.Words.Kept.{CatchesUp}
use Rattle.document_index.proofs.indexer.Indexer.catch_up.Given as goal

-- what the index catches up with after the reports that were taken, it does with all
abbrev pub invariant-loop : goal.invariant-loop
invariant-loop g l = record {
  iterates : (goal.iterator-loop g).can_next l.iterator' × (goal.iterator-loop g).is_finite l.iterator';
  done : (after : IndexValue) → CatchesUp IsReadAmong l.fn.self.documents.folder l.self.kept.index after →
      CatchesUp IsReadAmong l.fn.self.documents.folder l.fn.self.kept.index after;
  same : l.self.documents ≡ l.fn.self.documents;
}
