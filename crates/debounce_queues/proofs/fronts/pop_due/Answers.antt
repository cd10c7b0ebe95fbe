use Rattle.debounce_queues.proofs.fronts.pop_due.Goals as goal

pub returns-in-Some-clause-popped : goal.returns-in-Some-clause-popped
returns-in-Some-clause-popped g c = λ t p. c.in-Some.ensures.updates.0 (t, p)
