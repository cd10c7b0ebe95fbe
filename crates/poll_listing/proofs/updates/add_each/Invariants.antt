use Rattle.std.proofs.Common.{◌≡◌, length, Some}
use Rattle.std.specs.List.{AllByRecursion}
use Rattle.poll_listing.specs.Updates.{DifferInAdded, added_at, after_each, update_at}
use Rattle.poll_listing.proofs.updates.add_each.Given as goal

abbrev pub decreases-loop-path : goal.decreases-loop-path
decreases-loop-path g l = length l.rest

-- those so far, and then the rest; they change nothing else
abbrev pub invariant-loop-path : goal.invariant-loop-path
invariant-loop-path g l = record {
  added : after_each added_at l.entries.entries l.rest
      ≡ after_each added_at l.initial.entries.entries l.updates.entries;
  others : DifferInAdded l.updates.entries l.initial.entries.entries l.entries.entries;
  found : AllByRecursion (λ u. update_at l.updates.entries u.0 ≡ Some u.1) l.rest;
}
