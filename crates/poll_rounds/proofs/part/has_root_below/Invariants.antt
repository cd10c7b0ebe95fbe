use Rattle.std.proofs.Common.{◌≡◌, drop}
use Rattle.poll_rounds.specs.Parts.{has_root_below}
use Rattle.poll_rounds.proofs.part.has_root_below.Given as goal

-- the roots that are left decide
abbrev pub invariant-loop-root : goal.invariant-loop-root
invariant-loop-root g l = has_root_below (drop l.root-index l.roots) l.path ≡ has_root_below l.roots l.path
