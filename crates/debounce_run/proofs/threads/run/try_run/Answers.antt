use Rattle.debounce_run.proofs.threads.run.try_run.Goals as goal

pub returns : goal.returns
returns g c = rw (← c.as_slice.ensures.value, ← c.in-Ok.ensures, ← c.as_slice-2.ensures.value) c.checked.ensures.ok
