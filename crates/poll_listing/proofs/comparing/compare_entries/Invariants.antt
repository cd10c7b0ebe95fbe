use Rattle.std.proofs.Common.{◌≡◌, length, None}
use Rattle.std.specs.Option.{option_copied}
use Rattle.poll_listing.specs.Pairs.{joined, walk, paired}
use Rattle.poll_listing.proofs.comparing.compare_entries.Given as goal

-- the events so far, and those of the pairs that are left, are the events of all pairs
abbrev pub invariant-loop-pair : goal.invariant-loop-pair
invariant-loop-pair g l = joined l.parts (walk (option_copied l.top) l.pairs)
    ≡ walk None (paired l.old.entries l.new.entries)

abbrev pub decreases-loop-pair : goal.decreases-loop-pair
decreases-loop-pair g l = length l.pairs
