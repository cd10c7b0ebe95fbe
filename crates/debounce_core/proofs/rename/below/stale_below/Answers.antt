use Rattle.debounce_core.proofs.RenameLemmas.RunLists.{stale_end, stale_step, stale_stop}
use Rattle.debounce_core.proofs.rename.below.stale_below.Goals as goal

pub returns-then-not-starts_with-clause-stale : goal.returns-then-not-starts_with-clause-stale
returns-then-not-starts_with-clause-stale g c =
    stale_stop c.args.queues.now.entries c.args.from.now c.args.to.now c.loop-path.list.items c.loop-path.path-iterator
    c.loop-path.invariant (c.in-Some.path.now, c.in-Some._queue.now) c.next.new.self c.in-Some.ensures.steps
    c.starts_with.ensures c.range-path-items.ensures.ordered c.if-not-starts_with.true

pub loop-path-preserved : goal.loop-path-preserved
loop-path-preserved g c =
    stale_step c.args.queues.now.entries c.args.from.now c.args.to.now c.loop-path.list.items c.loop-path.path-iterator
    c.loop-path.invariant (c.in-Some.path.now, c.in-Some._queue.now) c.next.new.self c.in-Some.ensures.steps
    c.starts_with.ensures c.if-not-starts_with.false c.in_ok-add_stale.ensures

pub returns-clause-stale : goal.returns-clause-stale
returns-clause-stale g c =
    stale_end c.args.queues.now.entries c.args.from.now c.args.to.now c.loop-path.list.items c.loop-path.path-iterator
    c.loop-path.invariant c.range-path-items.ensures.ordered c.in-None.ensures.steps.0
