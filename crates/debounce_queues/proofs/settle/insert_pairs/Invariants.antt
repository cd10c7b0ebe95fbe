use Rattle.std.proofs.Common.{◌≡◌, ℕ, ◌||◌, ◌++◌, length}
use Rattle.std.specs.BTreeMap.{is_at}
use Rattle.std.specs.List.{list_any}
use Rattle.std.specs.Vec.Iter.{into_iter_items, into_iter_len}
use Rattle.notify_paths.specs.Path.{PathValue}
use Rattle.debounce_queues.specs.Fronts.{front_cmp, has}
use Rattle.debounce_queues.proofs.settle.insert_pairs.Given as goal

-- the pairs so far are in the index
abbrev pub invariant-loop-front : goal.invariant-loop-front
invariant-loop-front g l = record {
  put : (t : ℕ) (p : PathValue) →
      has l.fronts t p ≡ (list_any (is_at (front_cmp (t, p))) l.yielded || has l.fn.fronts t p);
  left : l.yielded ++ into_iter_items l.front-iterator ≡ l.fn.pairs.items;
  counted : length (into_iter_items l.front-iterator) ≡ into_iter_len l.front-iterator;
}
