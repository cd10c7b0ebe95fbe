use Rattle.debounce_c.proofs.desk.Desk.emit.Goals as goal

pub returns-in_default-clause-only : goal.returns-in_default-clause-only
returns-in_default-clause-only c = rw (← c.self.view_is) c.in-Ok.ensures.only

pub returns-clause-only : goal.returns-clause-only
returns-clause-only c = rw (← c.self.view_is) c.in-Ok-debounced_events.ensures.only
