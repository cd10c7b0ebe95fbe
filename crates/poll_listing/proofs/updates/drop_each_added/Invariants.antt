use Rattle.std.proofs.Common.{◌≡◌, length}
use Rattle.poll_listing.specs.Updates.{after_each, dropped_at}
use Rattle.poll_listing.proofs.updates.drop_each_added.Given as goal

abbrev pub decreases-loop-path : goal.decreases-loop-path
decreases-loop-path g l = length l.rest

-- those so far, and then the rest
abbrev pub invariant-loop-path : goal.invariant-loop-path
invariant-loop-path g l = after_each dropped_at l.entries.entries l.rest
    ≡ after_each dropped_at l.initial.entries.entries l.updates.entries
