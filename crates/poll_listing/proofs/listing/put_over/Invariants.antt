use Rattle.std.proofs.Common.{◌≡◌, length}
use Rattle.poll_listing.specs.MergedListings.{put_over}
use Rattle.poll_listing.proofs.listing.put_over.Given as goal

abbrev pub decreases-loop-path : goal.decreases-loop-path
decreases-loop-path g l = length l.rest

-- what is put over so far, and then the rest
abbrev pub invariant-loop-path : goal.invariant-loop-path
invariant-loop-path g l = put_over l.map.entries l.rest ≡ put_over l.fn.map.entries l.entries.entries
