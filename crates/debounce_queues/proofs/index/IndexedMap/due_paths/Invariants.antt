use Rattle.std.proofs.Common.{◌≡◌, ◌||◌, length}
use Rattle.std.specs.BTreeSet.{contains}
use Rattle.std.specs.List.{list_any}
use Rattle.std.specs.List.Sorted.{IsStrictlySortedBy}
use Rattle.notify_paths.specs.Path.{PathValue, path_cmp}
use Rattle.debounce_queues.specs.Fronts.{front_cmp}
use Rattle.debounce_queues.specs.Steps.{is_due_pair}
use Rattle.debounce_queues.proofs.index.IndexedMap.due_paths.Given as goal

-- the paths so far, and those of the pairs that are left, are all
abbrev pub invariant-loop-front : goal.invariant-loop-front
invariant-loop-front g l = record {
  found : (p : PathValue) → (contains path_cmp l.paths p || list_any (is_due_pair l.due p) l.fronts)
      ≡ list_any (is_due_pair l.due p) l.self.fronts.keys;
  ordered : IsStrictlySortedBy front_cmp l.fronts;
}

abbrev pub decreases-loop-front : goal.decreases-loop-front
decreases-loop-front g l = length l.fronts
