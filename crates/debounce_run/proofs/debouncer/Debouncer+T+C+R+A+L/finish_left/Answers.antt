use Rattle.debounce_run.proofs.TurnsLemmas.Ends.{finishes, finishes_by_hand}
use Rattle.debounce_run.proofs.debouncer.Debouncer+T+C+R+A+L.finish_left.Goals as goal

pub returns-in_default-clause-ended : goal.returns-in_default-clause-ended
returns-in_default-clause-ended g c = rw (← c.self.view_is) (rw c.in_default.is
    (finishes_by_hand _ _ _ _ _ _ _ _ _ c.into_book-book.ensures.told c.join-emitted.ensures.3))

pub returns-clause-ended : goal.returns-clause-ended
returns-clause-ended g c = rw (← c.self.view_is) (rw c.in-Some.is
    (finishes _ _ _ _ _ _ _ _ _ _ _ _ c.into_book_fed-book.ensures.told c.join-emitted-2.ensures.3
    c.join-feed.ensures))
