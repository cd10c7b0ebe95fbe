use Rattle.debounce_lock.specs.Passes.{view}
use Rattle.debounce_run.proofs.AccessLemmas.Gives.{lasts_by, may_stay}
use Rattle.debounce_run.proofs.AccessLemmas.Steps.{shows_state}
use Rattle.debounce_run.proofs.access.Access.outlook.Goals as goal

pub give-requires-clause-may : goal.give-requires-clause-may
give-requires-clause-may g c = let took = c.take-guard.ensures.took in may_stay _ _ took.holds took.stands

pub returns-clause-lasts : goal.returns-clause-lasts
returns-clause-lasts g c =
    let took = c.take-guard.ensures.took in
    let gave = c.give.ensures.gave in
    rw (← c.self.view_is) (lasts_by _ c.self.inside.pass.table_id c.give.new.pass.table_id _ _ _ _ _ (cc) took gave
    gave.makes.1)

pub returns-clause-outlook : goal.returns-clause-outlook
returns-clause-outlook g c =
    let took = c.take-guard.ensures.took in
    let gave = c.give.ensures.gave in
    shows_state c.outlook-batch.result c.deref-2.result.now.core.state (view c.give.new.pass).seen
    c.outlook-batch.ensures.outlook (rw (← gave.makes.0, ← c.deref-2.ensures) at took.stands.0.legal)
