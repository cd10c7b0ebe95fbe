use Rattle.notify_watch.proofs.CallLemmas.{called-none, called-once, called-then}
use Rattle.scenes.proofs.watcher.report.Goals as goal

pub loop-line-init : goal.loop-line-init
loop-line-init g c = (c.requires.ready, called-none g.F.EventHandler.handles c.args.handler.now)

pub loop-line-preserved-in-Some-strip_prefix : goal.loop-line-preserved-in-Some-strip_prefix
loop-line-preserved-in-Some-strip_prefix g c = (
  c.report_item.ensures.again,
  called-then g.F.EventHandler.handles c.args.handler.now c.loop-line.handler c.report_item.new.handler
      c.loop-line.invariant.1
      (called-once g.F.EventHandler.handles _ c.loop-line.handler c.report_item.new.handler
      c.report_item.ensures.handled),
)
