use Rattle.std.proofs.Common.{◌≡◌, drop}
use Rattle.debounce_model.specs.MapSteps.{reserved_all, nonempty_of}
use Rattle.debounce_queues.proofs.index.IndexedMap.reserve_all.Given as goal

-- with room for the others there is room for all, and what waits and the index stay
abbrev pub invariant-loop-path : goal.invariant-loop-path
invariant-loop-path g l = record {
  made : reserved_all l.self.map.entries (drop l.path-index l.queues)
      ≡ reserved_all l.initial.self.map.entries l.queues;
  kept : nonempty_of l.self.map.entries ≡ nonempty_of l.initial.self.map.entries;
  same : l.self.fronts ≡ l.initial.self.fronts;
}
