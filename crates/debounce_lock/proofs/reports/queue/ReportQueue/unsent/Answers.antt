use Rattle.debounce_lock.proofs.ReportsLemmas.Puts.{may_rest}
use Rattle.debounce_lock.proofs.reports.queue.ReportQueue.unsent.Goals as goal

pub give-requires-clause-may : goal.give-requires-clause-may
give-requires-clause-may g c = let took = c.take-guard.ensures.took in may_rest _ _ _ took.holds took.stands
