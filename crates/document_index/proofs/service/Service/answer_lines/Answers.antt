use Rattle.std.proofs.Common.{◌∙◌, ap}
use Rattle.std.specs.Prelude.{is_ok}
use Rattle.document_index.specs.Read.{IsReadAmong}
use Rattle.document_index.proofs.ServedLemmas.{answered_first, answered_last, answered_none, answered_of}
use Rattle.document_index.proofs.service.Service.answer_lines.Goals as goal

pub returns-then-is_last : goal.returns-then-is_last
returns-then-is_last g c =
    let query = c.in_ok-take_line.ensures.answered in
    let answered = answered_of IsReadAmong _ _ query.0 _ _ (ap (λ d. d.folder) c.loop-line.invariant.same) query.2 in
    record {
      answered = c.loop-line.invariant.done c.still_all-all.result _ (answered_last IsReadAmong _ query.0
          c.loop-line.all (is_ok c.in-Some.line) c.still_all-all.result _ _ query.1 answered
          c.still_all-all.ensures);
    }

pub loop-line-preserved-else-is_last : goal.loop-line-preserved-else-is_last
loop-line-preserved-else-is_last g c =
    let query = c.in_ok-take_line.ensures.answered in
    let answered = answered_of IsReadAmong _ _ query.0 _ _ (ap (λ d. d.folder) c.loop-line.invariant.same) query.2 in
    record {
      done = λ all after more. c.loop-line.invariant.done all after (answered_first IsReadAmong _ query.0
          c.loop-line.all (is_ok c.in-Some.line) c.still_all-all.result all _ _ after query.1 answered
          c.still_all-all.ensures more);
      same = c.take_line.ensures.same ∙ c.loop-line.invariant.same;
    }

pub loop-line-preserved : goal.loop-line-preserved
loop-line-preserved g c =
    let query = c.in_ok-take_line.ensures.answered in
    let answered = answered_of IsReadAmong _ _ query.0 _ _ (ap (λ d. d.folder) c.loop-line.invariant.same) query.2 in
    record {
      done = λ all after more. c.loop-line.invariant.done all after (answered_first IsReadAmong _ query.0
          c.loop-line.all (is_ok c.in-Some.line) c.still_all-all.result all _ _ after query.1 answered
          c.still_all-all.ensures more);
      same = c.take_line.ensures.same ∙ c.loop-line.invariant.same;
    }

pub returns : goal.returns
returns g c = record {
  answered = c.loop-line.invariant.done c.loop-line.all _ (answered_none IsReadAmong _ c.loop-line.all _);
}
