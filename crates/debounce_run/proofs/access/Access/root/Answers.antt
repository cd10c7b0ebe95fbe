use Rattle.std.proofs.Common.{inr}
use Rattle.debounce_lock.specs.Passes.{view}
use Rattle.debounce_model.specs.Command.{RootCommand, RootedReply}
use Rattle.debounce_run.proofs.AccessLemmas.Gives.{lasts_by, may_go, command_adds}
use Rattle.debounce_run.proofs.AccessLemmas.Steps.{root_stands}
use Rattle.debounce_run.proofs.access.Access.root.Goals as goal

pub give-requires-clause-may : goal.give-requires-clause-may
give-requires-clause-may g c =
    let took = c.take-guard.ensures.took in
    let step = c.root_step-answer in
    let made = root_stands g.C.FileIdCache.rules _ _ _ _ _ c.args.path.now c.args.mode step.result
    (rw (← c.deref_mut.ensures.value) at took.stands)
    step.ensures.ok step.ensures.err in
    may_go _ _ made.0 took.holds (rw (c.of-held.ensures, c.of.ensures, c.of-2.ensures) made.1) made.2
    (λ right. inr (made.3 right))

pub returns-clause-lasts : goal.returns-clause-lasts
returns-clause-lasts g c =
    let took = c.take-guard.ensures.took in
    let gave = c.give.ensures.gave in
    rw (← c.self.view_is) (lasts_by _ c.self.inside.pass.table_id c.give.new.pass.table_id _ _ _ _ _ (cc) took gave
    gave.makes.0)

pub returns-clause-ok : goal.returns-clause-ok
returns-clause-ok g c =
    let took = c.take-guard.ensures.took in
    let made = c.give.ensures.gave.makes in
    rw (← c.self.view_is) (command_adds (view c.self.inside.pass).seen (view c.take-guard.new.pass).seen
    (view c.give.new.pass).seen (RootCommand c.args.path.now c.args.mode) RootedReply c.of-2.result.value
    c.root_step-answer.result made.1 took.goes_on c.of-2.ensures (rw (c.of-held.ensures, c.of.ensures) at made.2)
    made.3)
