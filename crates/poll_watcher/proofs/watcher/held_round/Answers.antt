-- The round goes over the own listing, if there is one.
use Rattle.poll_watcher.specs.Roots.Said.{unsaid}
use Rattle.poll_watcher.proofs.WorkLemmas.{finds_owned, owned, round}
use Rattle.poll_watcher.proofs.watcher.held_round.Goals as goal

pub returns-clause-works : goal.returns-clause-works
returns-clause-works g c =
    let handles = g.F.EventHandler.handles in
    let old = c.args.watched.now in
    let new = c.round-went_well.new.self in
    let before = c.args.handler.now in
    let after = c.round-went_well.new.handler in
    owned handles c.args.own.now c.exchange.new.own c.exchange-2.new.own old.polled.last c.exchange.new.polled.last
    new.polled.last before after c.exchange.ensures.last c.exchange.ensures.own c.exchange-2.ensures.own
    (round handles old.trackers c.exchange.new.polled.last new.polled.last (unsaid old.closed.items new.closed.items)
    before after c.round-went_well.result c.exchange-2.ensures.law c.round-went_well.ensures.said
    c.round-went_well.ensures.reports)

pub returns-clause-tree : goal.returns-clause-tree
returns-clause-tree g c =
    let new = c.round-went_well.new.self in
    finds_owned g.D.RoundFolders.tree c.round-went_well.result c.exchange.new.own c.exchange-2.new.own
    new.polled.roots c.exchange-2.new.polled.roots new.polled.last c.exchange-2.new.polled.last
    c.exchange-2.ensures.roots c.exchange-2.ensures.last c.exchange-2.ensures.own c.round-went_well.ensures.tree
