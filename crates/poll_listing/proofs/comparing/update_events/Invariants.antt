use Rattle.std.proofs.Common.{◌≡◌, length, None}
use Rattle.std.specs.Option.{option_copied}
use Rattle.poll_listing.specs.Pairs.{joined, walk, updated_pairs}
use Rattle.poll_listing.proofs.comparing.update_events.Given as goal

-- the events so far, and those of the pairs that are left, are the events of all pairs
abbrev pub invariant-loop-pair : goal.invariant-loop-pair
invariant-loop-pair g l = joined l.parts (walk (option_copied l.top) l.pairs)
    ≡ walk None (updated_pairs l.old.entries l.updates.entries)

abbrev pub decreases-loop-pair : goal.decreases-loop-pair
decreases-loop-pair g l = length l.pairs
