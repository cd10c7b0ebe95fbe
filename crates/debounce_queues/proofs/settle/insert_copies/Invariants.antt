use Rattle.std.proofs.Common.{◌≡◌, ℕ, ◌||◌, true, drop}
use Rattle.notify_paths.specs.Path.{PathValue}
use Rattle.debounce_queues.specs.Fronts.{has}
use Rattle.debounce_queues.specs.Steps.{has_pair}
use Rattle.debounce_queues.proofs.settle.insert_copies.Given as goal

-- with the others all are in the index; and what was there is there
abbrev pub invariant-loop-pair : goal.invariant-loop-pair
invariant-loop-pair g l = record {
  put : (t : ℕ) (p : PathValue) → (has_pair (drop l.pair-index l.pairs) t p || has l.fronts t p)
      ≡ (has_pair l.pairs t p || has l.initial.fronts t p);
  grown : (t : ℕ) (p : PathValue) → has l.initial.fronts t p ≡ true → has l.fronts t p ≡ true;
}
