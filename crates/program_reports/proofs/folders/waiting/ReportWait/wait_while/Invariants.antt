use Rattle.std.proofs.Common.{◌≡◌}
use Rattle.std.specs.Prelude.{◌||◌, None, is_some}
use Rattle.program_reports.proofs.folders.waiting.ReportWait.wait_while.Given as goal

-- naps that bring no report change nothing, and leave no end to a wait that has none
abbrev pub invariant-loop : goal.invariant-loop
invariant-loop g l = record {
  iterates : (goal.iterator-loop g).can_next l.iterator' × (goal.iterator-loop g).is_finite l.iterator';
  has_end : (is_some l.self-inside.end || is_some l.self-inside.input.ended) ≡ l.fn.self.has_end;
  lock : l.self-inside.queue.lock ≡ l.fn.self.queue.lock;
  given : l.self-inside.queue.given ≡ l.fn.self.queue.given;
  left : l.fn.pause ≡ None → l.left ≡ None;
}
