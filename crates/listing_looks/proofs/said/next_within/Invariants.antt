use Rattle.std.proofs.Common.{◌≡◌, length}
use Rattle.poll_listing.proofs.UpdateLemmas.{Ascends}
use Rattle.listing_looks.specs.Looks.{within}
use Rattle.listing_looks.proofs.said.next_within.Given as goal

abbrev pub decreases-loop-path : goal.decreases-loop-path
decreases-loop-path g l = length l.entries

-- nothing that was passed lies there
abbrev pub invariant-loop-path : goal.invariant-loop-path
invariant-loop-path g l = record {
  same : within l.entries l.top ≡ within l.fn.entries l.top;
  sorted : Ascends l.entries;
}
