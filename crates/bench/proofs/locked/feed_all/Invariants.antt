use Rattle.std.proofs.Common.{◌≡◌}
use Rattle.bench.proofs.locked.feed_all.Given as goal

-- it is the same feed
abbrev pub invariant-loop-event : goal.invariant-loop-event
invariant-loop-event g l = l.feed.lock ≡ l.fn.feed.lock
