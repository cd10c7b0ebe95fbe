use Rattle.std.proofs.Common.{◌≡◌, ◌+◌}
use Rattle.debounce_model.specs.Queues.{waiting_in}
use Rattle.debounce_queues.proofs.index.IndexedMap.waiting.Given as goal

-- those counted and those left are all that wait
abbrev pub invariant-loop-path : goal.invariant-loop-path
invariant-loop-path g l = l.count + waiting_in l._path-iterator ≡ waiting_in l.self.map.entries
