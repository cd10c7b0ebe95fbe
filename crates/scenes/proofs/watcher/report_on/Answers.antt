use Rattle.notify_watch.proofs.CallLemmas.{called-none, called-then}
use Rattle.scenes.proofs.watcher.report_on.Goals as goal

pub loop-init : goal.loop-init
loop-init g c = (c.requires.ready, called-none g.F.EventHandler.handles c.args.handler.now)

pub loop-preserved : goal.loop-preserved
loop-preserved g c = (
  c.report_if-in-loop.ensures.again,
  called-then g.F.EventHandler.handles c.args.handler.now c.report_if.new.handler c.report_if-in-loop.new.handler
      (called-then g.F.EventHandler.handles c.args.handler.now c.loop.handler c.report_if.new.handler
      c.loop.invariant.1 c.report_if.ensures.called) c.report_if-in-loop.ensures.called,
)
