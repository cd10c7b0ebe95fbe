use Rattle.std.proofs.Common.{ap, refl}
use Rattle.debounce_run.specs.Access.Happened.{entries_of, is_nil}
use Rattle.debounce_run.proofs.debouncer.Debouncer+T+C+R+A+L.watch_listed.Goals as goal

pub returns-clause-seen : goal.returns-clause-seen
returns-clause-seen g c =
    let lasts = c.root.ensures.lasts in
    let out = lasts.1 c.self.invariant.0 in
    rw (← c.self.view_is) (record {
      made = refl;
      lock = lasts.0.lock;
      parts = ap entries_of out;
      is_whole = ap is_nil out;
      began = refl;
      seen = lasts.0.seen;
    })
