-- The look goes over the own listing, if there is one.
use Rattle.poll_watcher.proofs.WorkLemmas.{owned, step}
use Rattle.poll_watcher.proofs.watcher.held_look.Goals as goal

pub returns-clause-works : goal.returns-clause-works
returns-clause-works g c =
    let handles = g.F.EventHandler.handles in
    let old = c.args.watched.now in
    let new = c.look_at-went_well.new.self in
    let before = c.args.handler.now in
    let after = c.look_at-went_well.new.handler in
    owned handles c.args.own.now c.exchange.new.own c.exchange-2.new.own old.polled.last c.exchange.new.polled.last
    new.polled.last before after c.exchange.ensures.last c.exchange.ensures.own c.exchange-2.ensures.own
    (step handles old.trackers c.exchange.new.polled.last new.polled.last before after c.exchange-2.ensures.law
    c.look_at-went_well.ensures.reports)
