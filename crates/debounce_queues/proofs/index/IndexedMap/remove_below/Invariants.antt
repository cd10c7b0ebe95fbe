use Rattle.std.proofs.Common.{◌≡◌}
use Rattle.debounce_model.specs.Queues.{without_below}
use Rattle.debounce_queues.specs.Fronts.{IsIndexed}
use Rattle.debounce_queues.proofs.index.IndexedMap.remove_below.Given as goal

-- what isn't below the path stays, and the index has the fronts
abbrev pub invariant-loop-step : goal.invariant-loop-step
invariant-loop-step g l = record {
  left : without_below l.self.map.entries l.path ≡ without_below l.initial.self.map.entries l.path;
  indexed : IsIndexed l.self.fronts l.self.map.entries;
}
