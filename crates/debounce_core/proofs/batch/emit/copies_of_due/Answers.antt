use Rattle.debounce_core.proofs.batch.emit.copies_of_due.Goals as goal

pub returns-clause-only : goal.returns-clause-only
returns-clause-only g c =
    rw (c.as_slice-2.ensures.value, c.in_ok-events.ensures.events) at c.copy_in_order.ensures.only
