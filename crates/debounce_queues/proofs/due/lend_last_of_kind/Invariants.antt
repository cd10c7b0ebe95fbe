use Rattle.std.proofs.Common.{◌≡◌, ◌++◌, drop}
use Rattle.notify_types.specs.Borrowed.{borrowed}
use Rattle.debounce_model.specs.Due.{last_of_kind}
use Rattle.debounce_queues.proofs.due.lend_last_of_kind.Given as goal

abbrev pub invariant-loop-i : goal.invariant-loop-i
invariant-loop-i g l = borrowed l.out.items ++ last_of_kind (drop l.i l.events) ≡ borrowed l.initial.out.items
    ++ last_of_kind l.events
