use Rattle.std.proofs.Common.{◌≡◌, drop}
use Rattle.listing_looks.specs.Looks.{is_lost, is_lost_after}
use Rattle.listing_looks.proofs.said.is_lost.Given as goal

-- the paths that are left decide
abbrev pub invariant-loop-top : goal.invariant-loop-top
invariant-loop-top g l = is_lost_after l.gone (drop l.top-index l.tops) l.path ≡ is_lost l.tops l.path
