use Rattle.std.proofs.Common.{◌≡◌, drop}
use Rattle.poll_rounds.specs.Closed.{is_kept}
use Rattle.poll_rounds.proofs.closed.is_kept.Given as goal

-- the closed paths that are left decide
abbrev pub invariant-loop-place : goal.invariant-loop-place
invariant-loop-place g l = is_kept (drop l.place-index l.closed) l.last l.path ≡ is_kept l.closed l.last l.path
