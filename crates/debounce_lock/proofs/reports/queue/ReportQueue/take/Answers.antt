use Rattle.std.proofs.Common.{◌∙◌, true, refl}
use Rattle.debounce_lock.specs.Passes.{view}
use Rattle.debounce_lock.proofs.ReportsLemmas.Puts.{comes, comes_none, gives_one, may_come, may_rest}
use Rattle.debounce_lock.proofs.reports.queue.ReportQueue.take.Goals as goal
use Rattle.debounce_lock.proofs.reports.queue.ReportQueue.take.Goals.{in-Some, in-None}

pub give-requires-clause-may : goal.give-requires-clause-may
give-requires-clause-may g c =
    let took = c.take-guard.ensures.took in
    may_come _ _ _ _ (c.in-Some.report, true) took.holds (took.keeps ∙ c.self.invariant.1)
    (gives_one _ _ _ _ _ c.in-Some.report took.stands c.in-Some.ensures.items)
    (refl, rw c.of.ensures refl)

pub give-requires-in-None-clause-may : goal.give-requires-in-None-clause-may
give-requires-in-None-clause-may g c =
    let took = c.take-guard.ensures.took in may_rest _ _ _ took.holds (rw c.in-None.ensures.items at took.stands)

pub returns-clause-given : goal.returns-clause-given
returns-clause-given g c =
    let took = c.take-guard.ensures.took in
    let first = took.taken c.self.invariant.1 in
    rw (← c.self.view_is) (elim c.match-pop_front.branch [
      | in-Some w ↦ rw (w.self-inside-is, w.result-is) (comes (view w.give.new.pass).taken
          (view c.take-guard.new.pass).taken (view c.self.inside.pass).taken w.of.result.value w.in-Some.report
          w.give.ensures.gave.makes.1 w.of.ensures first)
      | in-None w ↦ rw (w.self-inside-is, w.result-is) (comes_none (view w.give-in-None.new.pass).taken
          (view c.take-guard.new.pass).taken (view c.self.inside.pass).taken w.give-in-None.ensures.gave.makes.1 first)
    ])
