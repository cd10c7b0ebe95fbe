use Rattle.std.proofs.Common.{◌≡◌}
use Rattle.debounce_lock.specs.Passes.{IsPassOf, view}
use Rattle.debounce_lock.proofs.lock.Lock.take.Given as goal

abbrev pub invariant-loop : goal.invariant-loop
invariant-loop g l = IsPassOf l.self.table.shared.table_id l.pass × (view l.pass ≡ view l.fn.pass)
