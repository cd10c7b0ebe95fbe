use Rattle.std.proofs.lemmas.Result.{on_ok_weaker}
use Rattle.program_copy.proofs.looks.Looks.look_from.Goals as goal

pub returns-then-is_removal-clause-seen : goal.returns-then-is_removal-clause-seen
returns-then-is_removal-clause-seen g c = on_ok_weaker c.look_below.result
    (λ seen before. seen (c.in_ok-look.ensures.seen before)) c.look_below.ensures.seen
