use Rattle.debounce_queues.proofs.FrontTicks.{index_tells}
use Rattle.debounce_queues.proofs.queues.IndexedQueues.is_any_due.Goals as goal

pub returns : goal.returns
returns g c =
    let told = c.is_oldest_due.ensures in
    let at = c.self.inside.index in
    rw (← c.self.view_is) (index_tells c.args.due at.fronts at.map.entries c.is_oldest_due.result c.self.invariant
    c.len-len.ensures.ordered told.none told.some)
