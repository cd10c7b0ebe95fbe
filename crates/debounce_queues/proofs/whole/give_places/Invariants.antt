use Rattle.std.proofs.Common.{◌≡◌, ◌+◌, ◌≤◌, ◌++◌, length, vec_len, vec_capacity}
use Rattle.debounce_model.specs.Due.{due_fronts, place_list}
use Rattle.debounce_queues.specs.Due.{is_due}
use Rattle.debounce_queues.proofs.whole.give_places.Given as goal

-- what was moved and what is to be moved of the other queues are all, and there is room; those counted and
-- those left are all that are due
abbrev pub invariant-loop-path : goal.invariant-loop-path
invariant-loop-path g l = record {
  moved : l.out.items ++ place_list (is_due l.due) l._path-iterator ≡ l.fn.out.items
      ++ place_list (is_due l.due) l.fn.map.entries;
  room : vec_len l.out + length (place_list (is_due l.due) l._path-iterator) ≤ vec_capacity l.out;
  same : vec_capacity l.out ≡ vec_capacity l.fn.out;
  counted : l.count + due_fronts (is_due l.due) l._path-iterator ≡ due_fronts (is_due l.due) l.fn.map.entries;
}
