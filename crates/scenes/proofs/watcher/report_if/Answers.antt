use Rattle.notify_watch.proofs.CallLemmas.{called-none}
use Rattle.scenes.proofs.watcher.report_if.Goals as goal

pub returns-then-not-asked-clause-called : goal.returns-then-not-asked-clause-called
returns-then-not-asked-clause-called g c = called-none g.F.EventHandler.handles c.args.handler.now
