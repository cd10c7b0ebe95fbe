use Rattle.poll_watcher.proofs.WorkLemmas.{finds, works-last}
use Rattle.poll_watcher.proofs.watcher.held_last.Goals as goal

pub returns : goal.returns
returns g c = record {
  works =
      let round = c.held_round-went_well in
      works-last g.F.EventHandler.handles c.args.own.now round.new.own round.new.watched.polled.last
      c.take_found-2.result.polled.last c.args.handler.now round.new.handler round.ensures.works
      c.take_found-2.ensures.last;
  tree =
      let round = c.held_round-went_well in
      finds g.D.RoundFolders.tree round.result c.take_found-2.result.went_well round.new.watched.polled.roots
      c.take_found-2.result.polled.roots _ c.take_found-2.result.polled.last c.take_found-2.ensures.went_well
      c.take_found-2.ensures.roots c.take_found-2.ensures.last round.ensures.tree;
}
