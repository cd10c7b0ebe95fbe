use Rattle.std.proofs.lemmas.Result.{on_ok_weaker}
use Rattle.program_copy.proofs.kept.Kept.carry_to.Goals as goal

pub returns-clause-carried : goal.returns-clause-carried
returns-clause-carried g c =
    on_ok_weaker c.note_came.result (λ told. (c.in_ok-carry.ensures.carried, told)) c.note_came.ensures
