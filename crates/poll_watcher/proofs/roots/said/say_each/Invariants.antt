use Rattle.std.proofs.Common.{drop}
use Rattle.poll_watcher.specs.Roots.Said.{unsaid}
use Rattle.poll_watcher.proofs.RootsLemmas.SaidLemmas.{LeadsOn}
use Rattle.poll_watcher.proofs.roots.said.say_each.Given as goal

-- who says what is left has said all, and the handler can be called
abbrev pub invariant-loop-one : goal.invariant-loop-one
invariant-loop-one g l = record {
  ready : g.H.EventHandler.ready l.handler;
  leads : LeadsOn g.H.EventHandler.handles (unsaid l.said (drop l.one-index l.closed)) (unsaid l.said l.closed)
      l.fn.handler l.handler;
}
