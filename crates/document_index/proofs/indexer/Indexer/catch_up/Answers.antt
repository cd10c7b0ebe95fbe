use Rattle.std.proofs.Common.{[], ◌∷◌, ◌∙◌, refl, subst}
use Rattle.std.proofs.lemmas.Result.{on_ok_weaker}
use Rattle.program_logic.specs.Words.Kept.{TakesEach}
use Rattle.document_index.specs.Read.{IsReadAmong}
use Rattle.document_index.proofs.ServedLemmas.{taken_first}
use Rattle.document_index.proofs.indexer.Indexer.catch_up.Goals as goal

pub loop-preserved-in_ok-take_report-in-Some-next_within :
    goal.loop-preserved-in_ok-take_report-in-Some-next_within
loop-preserved-in_ok-take_report-in-Some-next_within g c = record {
  iterates = (tt, tt);
  done = λ after more. c.loop.invariant.done after (taken_first IsReadAmong c.args.self.now.documents.folder
      c.in-Some-next_within.report c.loop.self.kept.index c.take_report.new.self.kept.index after
      (subst (λ d. TakesEach IsReadAmong d.folder (c.in-Some-next_within.report ∷ []) c.loop.self.kept.index
      c.take_report.new.self.kept.index) c.loop.invariant.same c.in_ok-take_report-in-Some-next_within.ensures.taken)
      more);
  same = c.take_report.ensures.same ∙ c.loop.invariant.same;
}

pub returns-in-None-next_within : goal.returns-in-None-next_within
returns-in-None-next_within g c = record {
  caught = on_ok_weaker c.read_again.result
      (λ again. c.loop.invariant.done c.read_again.new.self.index ([], c.loop.self.kept.index, _, refl, again))
      c.read_again.ensures.again;
  same = c.loop.invariant.same;
}
