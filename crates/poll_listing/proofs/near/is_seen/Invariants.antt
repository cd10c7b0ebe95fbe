use Rattle.std.proofs.Common.{◌≡◌, drop}
use Rattle.poll_listing.specs.Near.{is_seen}
use Rattle.poll_listing.proofs.near.is_seen.Given as goal

-- the roots that are left decide
abbrev pub invariant-loop-root : goal.invariant-loop-root
invariant-loop-root g l = is_seen (drop l.root-index l.roots) l.path ≡ is_seen l.roots l.path
