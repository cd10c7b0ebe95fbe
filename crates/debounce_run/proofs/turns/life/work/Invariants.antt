use Rattle.std.proofs.Common.{◌≡◌}
use Rattle.debounce_lock.specs.History.{picked}
use Rattle.debounce_run.specs.Turns.Clock.{AreAmong}
use Rattle.debounce_run.specs.Turns.Handed.{Handed, ticks_by}
use Rattle.debounce_run.specs.Access.Happened.{is_emitting}
use Rattle.debounce_run.proofs.turns.life.work.Given as goal

abbrev pub invariant-loop : goal.invariant-loop
invariant-loop g l = g.H.DebounceEventHandler.ready l.handler × (l.gate.lock ≡ l.fn.gate.lock)
    × Handed g.H.DebounceEventHandler.handles l.fn.handler (picked is_emitting l.gate.seen) l.handler
    × AreAmong (ticks_by l.gate) l.gate.moments
