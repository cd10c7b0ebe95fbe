use Rattle.std.proofs.Common.{◌≡◌, ◌+◌, ◌≤◌, ◌++◌, length, vec_len, vec_capacity}
use Rattle.debounce_queues.specs.Steps.{AreThere, given_at, taken_at}
use Rattle.debounce_queues.proofs.due_paths.give_each.Given as goal

-- what was moved and what is to be moved are all, and there is room; the other paths make of these queues what all
-- make of those that were there
abbrev pub invariant-loop-path : goal.invariant-loop-path
invariant-loop-path g l = record {
  moved : l.out.items ++ given_at l.due l.map.entries l.path-iterator ≡ l.fn.out.items
      ++ given_at l.due l.fn.map.entries l.fn.paths.keys;
  room : vec_len l.out + length (given_at l.due l.map.entries l.path-iterator) ≤ vec_capacity l.out;
  same : vec_capacity l.out ≡ vec_capacity l.fn.out;
  taken : taken_at l.due l.map.entries l.path-iterator ≡ taken_at l.due l.fn.map.entries l.fn.paths.keys;
  there : AreThere l.due l.map.entries l.path-iterator;
}
