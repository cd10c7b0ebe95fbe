use Rattle.poll_watcher.specs.Work.{Works}
use Rattle.poll_watcher.proofs.watcher.RoundTask.make_rounds.Given as goal

-- what is done so far, and the handler can be called
abbrev pub invariant-loop : goal.invariant-loop
invariant-loop g l = record {
  iterates : (goal.iterator-loop g).can_next l.iterator' × (goal.iterator-loop g).is_finite l.iterator';
  ready : g.F.EventHandler.ready l.self.handler;
  works : Works g.F.EventHandler.handles l.fn.self.own l.fn.self.handler l.self.own l.self.handler;
}
