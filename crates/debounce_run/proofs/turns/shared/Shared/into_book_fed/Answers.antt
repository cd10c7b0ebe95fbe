use Rattle.debounce_run.proofs.turns.shared.Shared.into_book_fed.Goals as goal

pub returns-clause-told : goal.returns-clause-told
returns-clause-told g c = rw (← c.into_pass.ensures.same.0) c.close_fed-book.ensures.told
