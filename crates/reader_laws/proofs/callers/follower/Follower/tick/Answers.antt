-- The reader plays the batch.
use Rattle.reader_laws.proofs.CallersLemmas.Following.{followed_tick}
use Rattle.reader_laws.proofs.callers.follower.Follower.tick.Goals as goal

pub invariant_of-follower : goal.invariant_of-follower
invariant_of-follower g c =
    rw (c.in_ok-play.ensures.ok, c.as_slice.ensures.value)
    (followed_tick c.self.inside.core c.debounced_events.new.self c.self.inside.last c.self.inside.reader c.args.now
    c.in_ok-batch.batch.items c.self.invariant (c.in_ok-batch.ensures.batch, c.in_ok-batch.ensures.ok))

pub returns-clause-batch : goal.returns-clause-batch
returns-clause-batch g c =
    rw (← c.self.view_is) (c.in_ok-batch.ensures.batch, c.in_ok-batch.ensures.ok)
