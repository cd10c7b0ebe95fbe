use Rattle.notify_watch.specs.Handler.{IsCalledOn}
use Rattle.scenes.proofs.watcher.report_on.Given as goal

-- the handler may be called again, and was only called
abbrev pub invariant-loop : goal.invariant-loop
invariant-loop g l =
    g.F.EventHandler.ready l.handler × IsCalledOn g.F.EventHandler.handles l.fn.handler l.handler
