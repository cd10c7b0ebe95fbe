use Rattle.debounce_run.proofs.TurnsLemmas.Ends.{ends_fed}
use Rattle.debounce_run.proofs.debouncer.Debouncer+ByHand+C+R+A+L.finish_fed.Goals as goal

pub returns-clause-ended : goal.returns-clause-ended
returns-clause-ended g c = rw (← c.self.view_is)
    (_, ends_fed _ _ _ _ _ _ _ _ c.into_book_fed.ensures.told c.join-emitted.ensures.3)
