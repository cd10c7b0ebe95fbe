use Rattle.std.proofs.Common.{◌∙◌, sym}
use Rattle.debounce_run.proofs.AccessLemmas.Gives.{feeds_missed, feeds_taken}
use Rattle.debounce_run.proofs.AccessLemmas.Steps.{done, refused}
use Rattle.debounce_run.proofs.turns.feed.FeedEventHandlerResultEventError.handle_event.Goals as goal

pub returns-then-is_err-clause-handled : goal.returns-then-is_err-clause-handled
returns-then-is_err-clause-handled g c =
    let none = refused _ c.feed.result (sym c.is_err.ensures.value ∙ c.if-is_err.true) c.feed.ensures.err in
    let lock = rw (← c.self.view_is) at c.feed.ensures.lock in
    let left = rw (← c.self.view_is) at none in
    feeds_missed _ _ _ c.args.event lock left c.miss.ensures.same c.miss.ensures.missed

pub returns-else-is_err-clause-handled : goal.returns-else-is_err-clause-handled
returns-else-is_err-clause-handled g c =
    feeds_taken _ _ c.args.event c.feed.ensures.lock
    (done _ c.feed.result (sym c.is_err.ensures.value ∙ c.if-is_err.false) c.feed.ensures.ok)
