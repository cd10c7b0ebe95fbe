use Rattle.debounce_run.proofs.debouncer.Running.take_journal.Goals as goal

pub invariant_of-self : goal.invariant_of-self
invariant_of-self g c =
    let on = c.take_journal.ensures.on in rw (on.keeps, on.lock) c.self.invariant
