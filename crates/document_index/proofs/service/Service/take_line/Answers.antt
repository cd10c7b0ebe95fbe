use Rattle.std.proofs.Common.{refl}
use Rattle.std.specs.Prelude.{Some}
use Rattle.std.proofs.lemmas.Result.{on_ok_weaker}
use Rattle.document_index.proofs.service.Service.take_line.Goals as goal

pub returns-in-Ok : goal.returns-in-Ok
returns-in-Ok g c = record {
  answered = on_ok_weaker c.answer_line.result
      (λ answered. (Some c.trim.result.now, rw c.in-Ok.is refl, answered)) c.answer_line.ensures.answered;
  same = c.answer_line.ensures.same;
}
