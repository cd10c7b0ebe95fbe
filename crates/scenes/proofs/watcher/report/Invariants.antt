use Rattle.notify_watch.specs.Handler.{IsCalledOn}
use Rattle.scenes.proofs.watcher.report.Given as goal

-- the handler may be called again, and was only called
abbrev pub invariant-loop-line : goal.invariant-loop-line
invariant-loop-line g l =
    g.F.EventHandler.ready l.handler × IsCalledOn g.F.EventHandler.handles l.fn.handler l.handler
