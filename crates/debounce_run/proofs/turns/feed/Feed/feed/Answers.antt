use Rattle.std.proofs.Common.{inl, refl}
use Rattle.debounce_lock.proofs.Moves.{begins_self}
use Rattle.debounce_run.proofs.AccessLemmas.Gives.{fed_now}
use Rattle.debounce_run.proofs.AccessLemmas.Steps.{on_err}
use Rattle.debounce_run.proofs.turns.feed.Feed.feed.Goals as goal

pub returns-in_err-now-clause-err : goal.returns-in_err-now-clause-err
returns-in_err-now-clause-err g c =
    rw (← c.self.view_is, c.in_err-now.ensures.err)
    (on_err _ c.from_residual.result (begins_self _, refl, inl refl))

pub returns-clause-lock : goal.returns-clause-lock
returns-clause-lock g c =
    rw (← c.self.view_is) (fed_now _ _ _ _ _ _ _ c.in_ok-now.ensures.ok c.feed_one.ensures).0

pub returns-clause-ok : goal.returns-clause-ok
returns-clause-ok g c =
    rw (← c.self.view_is) (fed_now _ _ _ _ _ _ _ c.in_ok-now.ensures.ok c.feed_one.ensures).1

pub returns-clause-err : goal.returns-clause-err
returns-clause-err g c =
    rw (← c.self.view_is) (fed_now _ _ _ _ _ _ _ c.in_ok-now.ensures.ok c.feed_one.ensures).2
