-- The tick is the first call, and the errors are the second; if they are refused, none is emitted.
use Rattle.std.proofs.Common.{inl, inr, refl}
use Rattle.debounce_book.proofs.Replay.{ticks_by}
use Rattle.debounce_book.proofs.steps.tick_step.Goals as goal

pub returns-in-Ok : goal.returns-in-Ok
returns-in-Ok g c =
    let tick = c.debounced_events-batch in (
      tick.new.self,
      ticks_by g.C.FileIdCache.rules c.args.book.now tick.new.self c.args.now tick.result tick.ensures.ok
          tick.ensures.err,
      inl c.in-Ok.ensures.ok,
    )

pub returns : goal.returns
returns g c =
    let tick = c.debounced_events-batch in
    let kept = c.in-Err.ensures.err in (
      tick.new.self,
      ticks_by g.C.FileIdCache.rules c.args.book.now tick.new.self c.args.now tick.result tick.ensures.ok
          tick.ensures.err,
      inr (c.new.ensures.items, (refl, kept.1, kept.2, kept.3)),
    )
