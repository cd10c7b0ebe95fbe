use Rattle.std.proofs.Common.{◌≡◌, ℕ, false, length}
use Rattle.notify_paths.specs.Path.{PathValue}
use Rattle.debounce_queues.specs.Due.{is_due_at}
use Rattle.debounce_queues.specs.Fronts.{has}
use Rattle.debounce_queues.proofs.due_paths.drop_due.Given as goal

-- the pairs that are not due are there
abbrev pub invariant-loop-front : goal.invariant-loop-front
invariant-loop-front g l = (t : ℕ) (p : PathValue) → is_due_at l.due t ≡ false →
    has l.fronts t p ≡ has l.fn.fronts t p

abbrev pub decreases-loop-front : goal.decreases-loop-front
decreases-loop-front g l = length l.fronts.keys
