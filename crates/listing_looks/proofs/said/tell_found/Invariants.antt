use Rattle.std.proofs.Common.{◌≡◌, length}
use Rattle.listing_looks.specs.SaidUpdates.{all_found}
use Rattle.listing_looks.proofs.said.tell_found.Given as goal

abbrev pub decreases-loop-path : goal.decreases-loop-path
decreases-loop-path g l = length l.rest

-- those so far, and then the rest
abbrev pub invariant-loop-path : goal.invariant-loop-path
invariant-loop-path g l = all_found l.updates.entries l.known l.rest
    ≡ all_found l.initial.updates.entries l.known l.found.entries
