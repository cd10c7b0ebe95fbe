use Rattle.std.proofs.Common.{refl}
use Rattle.debounce_run.proofs.turns.ticking.TickingTickGateErrorVecDebouncedEventVecError.tick.Goals as goal

pub returns : goal.returns
returns g c = rw (← c.self.view_is) (c.tick.ensures.lasts.0.lock, c.tick.ensures.ticks, c.tick.ensures.emits, refl)
