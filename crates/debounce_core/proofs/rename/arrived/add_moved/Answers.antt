use Rattle.debounce_model.specs.Rename.{at_path}
use Rattle.debounce_core.proofs.RenameLemmas.PushLemmas.{pushed_more}
use Rattle.debounce_core.proofs.rename.arrived.add_moved.Goals as goal

pub loop-event-preserved : goal.loop-event-preserved
loop-event-preserved g c =
    pushed_more (at_path c.args.path.now) c.args.events.now c.loop-event.event-index c.args.queue.now.items
    c.loop-event-test.true c.event-item.is c.loop-event.invariant c.in_ok-clone_at.ensures c.in_ok-push.ensures.items
