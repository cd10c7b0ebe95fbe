use Rattle.std.proofs.Common.{refl}
use Rattle.debounce_c.proofs.desk.Desk.outlook.Goals as goal

pub returns-in-Ok-clause-ok : goal.returns-in-Ok-clause-ok
returns-in-Ok-clause-ok c =
    rw (c.begin.ensures.left, c.begin.ensures.count)
    (record {
      batch = rw (← c.self.view_is) c.in-Ok.ensures.outlook;
      only = rw (← c.self.view_is) c.in-Ok.ensures.only;
      count = refl;
      rest = refl;
    })
