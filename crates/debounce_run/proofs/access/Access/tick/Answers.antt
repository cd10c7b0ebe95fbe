use Rattle.std.proofs.Common.{◌∙◌}
use Rattle.debounce_lock.specs.Passes.{view}
use Rattle.debounce_lock.specs.Rights.{Emits}
use Rattle.debounce_run.proofs.AccessLemmas.Gives.{lasts_by, may_go, tells_quiet, tick_adds, tick_gains, tick_unfed}
use Rattle.debounce_run.proofs.AccessLemmas.Steps.{tick_stands}
use Rattle.debounce_run.proofs.access.Access.tick.Goals as goal

pub give-requires-clause-may : goal.give-requires-clause-may
give-requires-clause-may g c =
    let took = c.take-guard.ensures.took in
    let gained = tick_stands g.C.FileIdCache.rules _ _ _ _ _ c.args.now _ _
    (rw (← c.deref_mut.ensures.value) at took.stands) c.tick_step-ticked.ensures in
    may_go _ _ gained.0 took.holds (rw (c.of-held.ensures, c.of.ensures) gained.1) gained.2
    (tells_quiet _ _ (took.tells ∙ (rw (← c.self.view_is) at c.requires)) (tick_unfed _ _ _ _ gained.1))

pub returns-clause-ticks : goal.returns-clause-ticks
returns-clause-ticks g c =
    let took = c.take-guard.ensures.took in
    let made = c.give.ensures.gave.makes in
    rw (← c.self.view_is) (tick_adds _ _ _ c.args.now c.of.result.value c.tick_step-ticked.result made.1 took.goes_on
    c.of.ensures (rw c.of-held.ensures at made.2) made.3)

pub returns-clause-emits : goal.returns-clause-emits
returns-clause-emits g c =
    let took = c.take-guard.ensures.took in
    let made = c.give.ensures.gave.makes in
    let tells = rw (← c.self.view_is) at c.requires in
    rw (← c.self.view_is) (tick_gains (view c.self.inside.pass).seen (view c.take-guard.new.pass).seen
    (view c.give.new.pass).seen c.args.now c.of.result.value c.tick_step-ticked.result made.1 (took.told Emits tells)
    c.of.ensures (rw c.of-held.ensures at made.2) made.3)

pub returns-clause-lasts : goal.returns-clause-lasts
returns-clause-lasts g c =
    let took = c.take-guard.ensures.took in
    let gave = c.give.ensures.gave in
    rw (← c.self.view_is) (lasts_by _ c.self.inside.pass.table_id c.give.new.pass.table_id _ _ _ _ _ (cc) took gave
    gave.makes.0)
