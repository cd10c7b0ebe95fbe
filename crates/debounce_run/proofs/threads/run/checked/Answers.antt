use Rattle.debounce_run.proofs.threads.run.checked.Goals as goal

pub returns-clause-ok : goal.returns-clause-ok
returns-clause-ok g c = (
  rw c.if-kept-timeout.false at c.into_journal-kept.ensures.legal,
  rw c.as_slice.ensures.value at (c.are_merged.ensures c.if-not-are_merged.false),
)
