use Rattle.std.proofs.Common.{◌≡◌, ◌++◌, drop}
use Rattle.debounce_queues.specs.Steps.{put_pairs}
use Rattle.debounce_queues.proofs.index.IndexedMap.fronts_at.Given as goal

-- the pairs so far and those of the other queues are all
abbrev pub invariant-loop-path : goal.invariant-loop-path
invariant-loop-path g l =
    l.pairs.items ++ put_pairs l.self.map.entries (drop l.path-index l.queues) ≡ put_pairs l.self.map.entries l.queues
