use Rattle.std.proofs.lemmas.Result.{on_ok_weaker}
use Rattle.program_copy.proofs.kept.Kept.try_move.Goals as goal

pub returns-clause-made : goal.returns-clause-made
returns-clause-made g c =
    on_ok_weaker c.make_if.result (λ asked. (c.is_due-due.result, c.is_due-due.ensures, asked)) c.make_if.ensures.asked
