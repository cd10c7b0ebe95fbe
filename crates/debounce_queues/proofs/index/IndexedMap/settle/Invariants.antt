use Rattle.std.proofs.Common.{◌≡◌, ℕ, ◌&&◌, ◌||◌, not, drop}
use Rattle.notify_paths.specs.Path.{PathValue}
use Rattle.debounce_queues.specs.Fronts.{has, is_front}
use Rattle.debounce_queues.specs.Steps.{has_pair}
use Rattle.debounce_queues.proofs.index.IndexedMap.settle.Given as goal

-- with the others settled all are, and the queues are as they were
abbrev pub invariant-loop-pair : goal.invariant-loop-pair
invariant-loop-pair g l = record {
  settled : (t : ℕ) (p : PathValue) → ((is_front l.initial.self.map.entries t p
      || not (has_pair (drop l.pair-index l.pairs) t p)) && has l.self.fronts t p)
      ≡ ((is_front l.initial.self.map.entries t p || not (has_pair l.pairs t p))
      && has l.initial.self.fronts t p);
  same : l.self.map.entries ≡ l.initial.self.map.entries;
}
