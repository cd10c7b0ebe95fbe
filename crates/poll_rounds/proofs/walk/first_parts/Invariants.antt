use Rattle.std.specs.Path.{components_remaining}
use Rattle.poll_rounds.proofs.FirstLemmas.{AreFirst}
use Rattle.poll_rounds.proofs.walk.first_parts.Given as goal

-- the first parts are left, and as many others as are still to go
abbrev pub invariant-loop-later : goal.invariant-loop-later
invariant-loop-later g l = AreFirst l.path l.count (l._later) (components_remaining l.components)
