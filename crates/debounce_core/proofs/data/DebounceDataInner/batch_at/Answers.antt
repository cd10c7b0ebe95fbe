-- With nothing due the batch is empty; else it is that of the tick.
use Rattle.std.proofs.Common.{◌∙◌, sym}
use Rattle.debounce_core.proofs.TickLemmas.{quiet_batch, quiet_only}
use Rattle.debounce_core.proofs.data.DebounceDataInner.batch_at.Goals as goal

pub returns-then-is_due-clause-batch : goal.returns-then-is_due-clause-batch
returns-then-is_due-clause-batch g c =
    rw (← c.self.view_is, ← c.state.view_is) (rw (← c.state.view_is, c.max.ensures) at c.batch_of.ensures.order)

pub returns-then-is_due-clause-only : goal.returns-then-is_due-clause-only
returns-then-is_due-clause-only g c =
    rw (← c.self.view_is, ← c.state.view_is) (rw (← c.state.view_is, c.max.ensures) at c.batch_of.ensures.only)

pub returns-clause-batch : goal.returns-clause-batch
returns-clause-batch g c =
    let nothing = rw (← c.state.view_is, c.max.ensures) at (sym c.is_due.ensures ∙ c.if-is_due.false) in
    rw (← c.self.view_is, ← c.state.view_is, c.new.ensures.items)
    (quiet_batch _ c.args.now c.state.invariant nothing)

pub returns-clause-only : goal.returns-clause-only
returns-clause-only g c =
    let nothing = rw (← c.state.view_is, c.max.ensures) at (sym c.is_due.ensures ∙ c.if-is_due.false) in
    rw (← c.self.view_is, ← c.state.view_is, c.new.ensures.items)
    (quiet_only _ c.args.now c.state.invariant nothing)
