use Rattle.std.proofs.lemmas.Result.{on_ok_weaker}
use Rattle.program_copy.proofs.mirror.Mirror.take_both.Goals as goal

pub returns : goal.returns
returns g c = on_ok_weaker c.take_batch.result (λ after. rw c.in_ok-append.ensures.items at after) c.take_batch.ensures
