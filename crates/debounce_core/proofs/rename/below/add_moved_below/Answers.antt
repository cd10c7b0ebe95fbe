-- One queue more goes along; the run ends where the entries do, or at one that doesn't lie below.
use Rattle.std.proofs.Common.{◌∙◌, ap}
use Rattle.debounce_model.specs.Moved.{moved_queue}
use Rattle.debounce_core.proofs.RenameLemmas.RunLists.{moved_end, moved_step, moved_stop}
use Rattle.debounce_core.proofs.rename.below.add_moved_below.Goals as goal

pub returns-then-not-starts_with : goal.returns-then-not-starts_with
returns-then-not-starts_with g c =
    moved_stop c.args.queues.now.entries c.args.from.now c.args.to.now c.args.began c.args.puts.now.items
    c.loop-path.puts.items c.loop-path.path-iterator c.loop-path.invariant (c.in-Some.path.now, c.in-Some.queue.now)
    c.next.new.self c.in-Some.ensures.steps c.starts_with.ensures c.range-path-items.ensures.ordered
    c.if-not-starts_with.true

pub loop-path-preserved : goal.loop-path-preserved
loop-path-preserved g c =
    moved_step c.args.queues.now.entries c.args.from.now c.args.to.now c.args.began c.args.puts.now.items
    c.loop-path.puts.items c.loop-path.path-iterator c.loop-path.invariant (c.in-Some.path.now, c.in-Some.queue.now)
    c.next.new.self c.in-Some.ensures.steps c.starts_with.ensures c.if-not-starts_with.false c.in_ok-place.ensures
    (c.in_ok-moved.ensures ∙ ap (moved_queue c.args.from.now c.args.to.now c.args.began) c.events.ensures)
    c.in_ok-push.ensures.items

pub returns : goal.returns
returns g c =
    moved_end c.args.queues.now.entries c.args.from.now c.args.to.now c.args.began c.args.puts.now.items
    c.loop-path.puts.items c.loop-path.path-iterator c.loop-path.invariant c.range-path-items.ensures.ordered
    c.in-None.ensures.steps.0
