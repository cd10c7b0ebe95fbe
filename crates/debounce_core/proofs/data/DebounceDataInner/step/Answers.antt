use Rattle.debounce_core.proofs.data.DebounceDataInner.step.Goals as goal

pub returns-in-Ok : goal.returns-in-Ok
returns-in-Ok g c = rw c.in-Event.is (c.in-Ok.ensures.ok, c.answer.ensures)
