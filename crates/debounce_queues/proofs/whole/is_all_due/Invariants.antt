use Rattle.std.proofs.Common.{◌≡◌}
use Rattle.debounce_model.specs.Due.{rests}
use Rattle.debounce_queues.specs.Due.{is_due}
use Rattle.debounce_queues.proofs.whole.is_all_due.Given as goal

-- nothing is left of the queues so far
abbrev pub invariant-loop-path : goal.invariant-loop-path
invariant-loop-path g l = rests (is_due l.due) l._path-iterator ≡ rests (is_due l.due) l.map.entries
