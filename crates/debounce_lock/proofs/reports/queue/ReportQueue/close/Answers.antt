use Rattle.std.proofs.Common.{◌∙◌, ◌++◌, ◌-◌, ◌^◌, min, sym, ap}
use Rattle.debounce_lock.specs.Passes.{view}
use Rattle.debounce_lock.specs.Rights.{Emits}
use Rattle.debounce_lock.specs.Reports.Queue.{lost_in, put_in}
use Rattle.debounce_lock.proofs.OneTeller.{picked_all}
use Rattle.debounce_lock.proofs.reports.queue.ReportQueue.close.Goals as goal

pub returns-clause-reports : goal.returns-clause-reports
returns-clause-reports g c =
    let took = c.take-guard.ensures.took in
    let told = sym (picked_all (view c.take-guard.new.pass).seen)
    ∙ sym (c.compare.ensures.told Emits c.sender.invariant.1)
    ∙ picked_all (view c.sender.inside.pass).seen in
    rw (← c.self.view_is, ← c.sender.view_is, c.into_vec.ensures.items)
    (ap (λ l. put_in l ++ c.take-guard.result.1.queue.items) (sym (took.taken c.self.invariant.1))
    ∙ took.stands.queue_is ∙ ap put_in told)

pub returns-clause-unsent : goal.returns-clause-unsent
returns-clause-unsent g c =
    let took = c.take-guard.ensures.took in
    let told = sym (picked_all (view c.take-guard.new.pass).seen)
    ∙ sym (c.compare.ensures.told Emits c.sender.invariant.1)
    ∙ picked_all (view c.sender.inside.pass).seen in
    rw (← c.sender.view_is) (took.stands.unsent_is ∙ ap (λ l. min (lost_in l) (2 ^ 64 - 1)) told)
