use Rattle.poll_watcher.proofs.WorkLemmas.{works-then}
use Rattle.poll_watcher.proofs.watcher.RoundTask.make_rounds.Goals as goal

pub loop-preserved : goal.loop-preserved
loop-preserved g c = record {
  iterates = (tt, tt);
  ready = c.look.ensures.again;
  works = works-then g.F.EventHandler.handles c.args.self.now.own c.loop.self.own c.look.new.self.own
      c.args.self.now.handler c.loop.self.handler c.look.new.self.handler c.loop.invariant.works
      c.look.ensures.works;
}

pub loop-preserved-in-Nothing : goal.loop-preserved-in-Nothing
loop-preserved-in-Nothing g c = record {
  iterates = (tt, tt);
  ready = c.round_if_due.ensures.again;
  works = works-then g.F.EventHandler.handles c.args.self.now.own c.loop.self.own c.round_if_due.new.self.own
      c.args.self.now.handler c.loop.self.handler c.round_if_due.new.self.handler c.loop.invariant.works
      c.round_if_due.ensures.works;
}

pub loop-preserved-in-Round : goal.loop-preserved-in-Round
loop-preserved-in-Round g c = record {
  iterates = (tt, tt);
  ready = c.round.ensures.again;
  works = works-then g.F.EventHandler.handles c.args.self.now.own c.loop.self.own c.round.new.self.own
      c.args.self.now.handler c.loop.self.handler c.round.new.self.handler c.loop.invariant.works
      c.round.ensures.works;
}
