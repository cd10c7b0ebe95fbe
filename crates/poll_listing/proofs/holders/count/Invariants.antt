use Rattle.std.proofs.Common.{◌≡◌, ℕ, length}
use Rattle.std.specs.Option.{option_map}
use Rattle.poll_listing.specs.Holders.{counted, holder_at}
use Rattle.poll_listing.proofs.holders.count.Given as goal

-- the holders so far, and then the pairs that are left
abbrev pub invariant-loop-pair : goal.invariant-loop-pair
invariant-loop-pair g l = (number : ℕ) →
    option_map (counted l.pairs number) (holder_at l.holders.entries number)
    ≡ option_map (counted l.initial.pairs number) (holder_at l.initial.holders.entries number)

abbrev pub decreases-loop-pair : goal.decreases-loop-pair
decreases-loop-pair g l = length l.pairs
