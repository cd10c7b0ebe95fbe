use Rattle.std.proofs.Common.{◌≡◌, ◌+◌, ◌≤◌, ◌++◌, length, take, drop, vec_len, vec_capacity}
use Rattle.std.specs.Prelude.{reverse}
use Rattle.debounce_model.specs.Due.{last_of_kind}
use Rattle.debounce_queues.proofs.due.move_last_of_kind.Given as goal

-- what was moved, and what is to be moved of the others, are all; there is room for it; the first events stay
abbrev pub invariant-loop-event : goal.invariant-loop-event
invariant-loop-event g l = record {
  moved : l.out.items ++ last_of_kind (reverse (drop l.left l.events.items)) ≡ l.fn.out.items
      ++ last_of_kind (reverse (drop l.left l.fn.events.items));
  room : vec_len l.out + length (last_of_kind (reverse (drop l.left l.events.items))) ≤ vec_capacity l.out;
  same : vec_capacity l.out ≡ vec_capacity l.fn.out;
  kept : take l.left l.events.items ≡ take l.left l.fn.events.items;
  bound : l.left ≤ length l.events.items;
}

abbrev pub decreases-loop-event : goal.decreases-loop-event
decreases-loop-event g l = length l.events.items
