use Rattle.debounce_lock.specs.Passes.{view}
use Rattle.debounce_run.proofs.AccessLemmas.Gives.{lasts_beside, may_stay_beside}
use Rattle.debounce_run.proofs.access.Access.catch_up.Goals as goal

pub give-requires-clause-may : goal.give-requires-clause-may
give-requires-clause-may g c =
    let took = c.take-guard.ensures.took in
    may_stay_beside (view c.take-guard.new.pass) (view c.args.shown) (view c.compare.new.pass) c.take-guard.result.1
    c.compare.ensures.same took.holds took.stands

pub returns-clause-lasts : goal.returns-clause-lasts
returns-clause-lasts g c =
    let took = c.take-guard.ensures.took in
    let gave = c.give.ensures.gave in
    rw (← c.self.view_is) (lasts_beside c.self.inside.pass.table_id c.give.new.pass.table_id _
    (view c.take-guard.new.pass) (view c.args.shown) (view c.compare.new.pass) _ _ (cc) c.compare.ensures.same took
    gave)
