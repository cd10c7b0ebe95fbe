use Rattle.std.proofs.Common.{◌≡◌, length}
use Rattle.poll_listing.proofs.UpdateLemmas.{Ascends}
use Rattle.listing_looks.specs.Looks.{within}
use Rattle.listing_looks.specs.SaidUpdates.{all_gone}
use Rattle.listing_looks.proofs.said.tell_gone.Given as goal

abbrev pub decreases-loop-path : goal.decreases-loop-path
decreases-loop-path g l = length (within l.entries l.top)

-- those so far, and then the rest
abbrev pub invariant-loop-path : goal.invariant-loop-path
invariant-loop-path g l = record {
  gone : all_gone l.updates.entries (within l.entries l.top)
      ≡ all_gone l.initial.updates.entries (within l.known l.top);
  sorted : Ascends l.entries;
}
