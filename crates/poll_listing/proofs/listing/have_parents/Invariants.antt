use Rattle.std.proofs.Common.{◌≡◌, length}
use Rattle.std.specs.Map.{keys_of}
use Rattle.poll_listing.specs.Parents.{have_parents}
use Rattle.poll_listing.proofs.listing.have_parents.Given as goal

abbrev pub decreases-loop-path : goal.decreases-loop-path
decreases-loop-path g l = length l.rest

-- the test of the rest is that of all
abbrev pub invariant-loop-path : goal.invariant-loop-path
invariant-loop-path g l = have_parents (keys_of l.entries.entries) (keys_of l.rest)
    ≡ have_parents (keys_of l.entries.entries) (keys_of l.entries.entries)
