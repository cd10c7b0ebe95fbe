use Rattle.std.proofs.Common.{◌≡◌}
use Rattle.program_copy.specs.Looked.{AreSeen, StayKnown}
use Rattle.program_copy.proofs.looks.Looks.look_below.Given as goal

-- what was known stays, and all that is known is noted
abbrev pub invariant-loop-below : goal.invariant-loop-below
invariant-loop-below g l = record {
  wanted : l.self.wanted ≡ l.fn.self.wanted;
  stay : StayKnown l.fn.self.standing.entries l.fn.self.others.entries l.self.standing.entries l.self.others.entries;
  seen : AreSeen (g.C.FolderAndCopy.sees l.kept.copy) l.fn.self.wanted.entries l.fn.self.standing.entries
      l.fn.self.others.entries → AreSeen (g.C.FolderAndCopy.sees l.kept.copy) l.self.wanted.entries
      l.self.standing.entries l.self.others.entries;
}
