use Rattle.std.proofs.Common.{◌∙◌}
use Rattle.debounce_lock.specs.Passes.{view}
use Rattle.debounce_lock.specs.Rights.{Feeds}
use Rattle.debounce_run.proofs.AccessLemmas.Gives.{lasts_by, fed_gains, fed_none, feeds_quiet, may_go}
use Rattle.debounce_run.proofs.AccessLemmas.Steps.{fed_stands}
use Rattle.debounce_run.proofs.access.Access.feed.Goals as goal

pub give-requires-clause-may : goal.give-requires-clause-may
give-requires-clause-may g c =
    let took = c.take-guard.ensures.took in
    let step = c.feed_step-answer in
    let fed = fed_stands g.C.FileIdCache.rules _ _ _ _ _ c.args.item c.args.now c.args.exists step.result
    (rw (← c.deref_mut.ensures.value) at took.stands)
    step.ensures.ok step.ensures.err in
    may_go _ _ fed.0 took.holds (rw (c.of-held.ensures, c.of-fed.ensures, c.of.ensures) fed.1) fed.2
    (feeds_quiet _ _ (took.feeds ∙ (rw (← c.self.view_is) at c.requires)) fed.3)

pub returns-clause-ok : goal.returns-clause-ok
returns-clause-ok g c =
    let took = c.take-guard.ensures.took in
    let made = c.give.ensures.gave.makes in
    let feeds = rw (← c.self.view_is) at c.requires in
    rw (← c.self.view_is) (fed_gains (view c.self.inside.pass).seen (view c.take-guard.new.pass).seen
    (view c.give.new.pass).seen c.args.item c.of-fed.result.value c.args.now c.args.exists c.of.result.value
    c.feed_step-answer.result made.1 took.goes_on (took.told Feeds feeds) c.of-fed.ensures c.of.ensures
    (rw c.of-held.ensures at made.2) made.3)

pub returns-clause-err : goal.returns-clause-err
returns-clause-err g c =
    let took = c.take-guard.ensures.took in
    let made = c.give.ensures.gave.makes in
    let feeds = rw (← c.self.view_is) at c.requires in
    rw (← c.self.view_is) (fed_none (view c.self.inside.pass).seen (view c.take-guard.new.pass).seen
    (view c.give.new.pass).seen c.of-fed.result.value c.args.now c.args.exists c.of.result.value
    c.feed_step-answer.result made.1 (took.told Feeds feeds) c.of.ensures (rw c.of-held.ensures at made.2) made.3)

pub returns-clause-lasts : goal.returns-clause-lasts
returns-clause-lasts g c =
    let took = c.take-guard.ensures.took in
    let gave = c.give.ensures.gave in
    rw (← c.self.view_is) (lasts_by _ c.self.inside.pass.table_id c.give.new.pass.table_id _ _ _ _ _ (cc) took gave
    gave.makes.0)
