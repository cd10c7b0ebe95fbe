use Rattle.std.proofs.Common.{refl}
use Rattle.debounce_c.proofs.desk.Desk.tick.Goals as goal

pub returns-in-Ok-clause-ok : goal.returns-in-Ok-clause-ok
returns-in-Ok-clause-ok c =
    rw (c.begin.ensures.left, c.begin.ensures.count)
    (record {
      batch = c.in-Ok.ensures.batch;
      only = c.in-Ok.ensures.only;
      count = refl;
      rest = rw c.in-Ok.ensures.ok refl;
    })
