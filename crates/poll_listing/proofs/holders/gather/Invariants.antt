use Rattle.std.proofs.Common.{◌≡◌, ℕ, None, drop}
use Rattle.poll_listing.specs.Holders.{held_from, holder_at}
use Rattle.poll_listing.proofs.holders.gather.Given as goal

-- the holders so far, and then the events that are left
abbrev pub invariant-loop-place : goal.invariant-loop-place
invariant-loop-place g l = (number : ℕ) →
    held_from l.old number l.place (holder_at l.holders.entries number) (drop l.place l.events)
    ≡ held_from l.old number 0 None l.events
