use Rattle.poll_watcher.proofs.WorkLemmas.{works-then}
use Rattle.poll_watcher.proofs.watcher.RoundTask.look.Goals as goal

pub returns-clause-works : goal.returns-clause-works
returns-clause-works g c =
    works-then g.F.EventHandler.handles c.args.self.now.own c.look_at.new.self.own c.round.new.self.own
    c.args.self.now.handler c.look_at.new.self.handler c.round.new.self.handler c.look_at.ensures.works
    c.round.ensures.works
