use Rattle.debounce_model.specs.Moved.{moved_event}
use Rattle.debounce_core.proofs.RenameLemmas.PushLemmas.{pushed_more}
use Rattle.debounce_core.proofs.rename.moved.add_moved_events.Goals as goal

pub loop-event-preserved : goal.loop-event-preserved
loop-event-preserved g c =
    pushed_more (moved_event c.args.from.now c.args.to.now c.args.time) c.args.events.now c.loop-event.event-index
    c.args.list.now.items c.loop-event-test.true c.event-item.is c.loop-event.invariant c.in_ok-moved_event.ensures
    c.in_ok-push.ensures.items
