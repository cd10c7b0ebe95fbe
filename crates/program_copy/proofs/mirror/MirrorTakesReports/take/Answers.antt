use Rattle.std.proofs.lemmas.Result.{on_ok_weaker}
use Rattle.program_copy.proofs.mirror.MirrorTakesReports.take.Goals as goal

pub returns-in-Ok : goal.returns-in-Ok
returns-in-Ok g c = on_ok_weaker c.take_moved.result
    (λ after. rw c.in-Ok.is (
      after.0,
      c.in_ok-added.added.items,
      rw (c.asks_anew.ensures, c.in-Ok.is) at c.in_ok-added.ensures,
      after.1,
    )) c.take_moved.ensures
