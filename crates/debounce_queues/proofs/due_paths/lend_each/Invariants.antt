use Rattle.std.proofs.Common.{◌≡◌, ◌++◌}
use Rattle.std.specs.List.{flat_map}
use Rattle.notify_types.specs.Borrowed.{borrowed}
use Rattle.debounce_model.specs.Queues.{queue_at}
use Rattle.debounce_queues.specs.Steps.{emitted_at, front_after, pair_of}
use Rattle.debounce_queues.proofs.due_paths.lend_each.Given as goal

-- what was added and what the other paths emit are all; so are the pairs, and those of the other paths
abbrev pub invariant-loop-path : goal.invariant-loop-path
invariant-loop-path g l = record {
  lent : borrowed l.places.items ++ emitted_at l.due l.map.entries l.path-iterator ≡ borrowed l.fn.places.items
      ++ emitted_at l.due l.map.entries l.paths.keys;
  later : l.later.items ++ flat_map (λ p. pair_of (front_after l.due (queue_at l.map.entries p)) p)
      l.path-iterator ≡ flat_map (λ p. pair_of (front_after l.due (queue_at l.map.entries p)) p) l.paths.keys;
}
