use Rattle.std.proofs.Common.{◌≡◌}
use Rattle.debounce_lock.proofs.reports.queue.ReportQueue.next.Given as goal

-- rings that bring no report change nothing
abbrev pub invariant-loop : goal.invariant-loop
invariant-loop g l = record {
  iterates : (goal.iterator-loop g).can_next l.iterator' × (goal.iterator-loop g).is_finite l.iterator';
  same : l.self ≡ l.fn.self;
}
