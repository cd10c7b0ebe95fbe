use Rattle.std.proofs.Common.{drop}
use Rattle.program_copy.proofs.AnewLemmas.{AreAgain}
use Rattle.program_copy.proofs.mirror.Mirror.copied_again.Given as goal

-- the events so far, of all paths but those that are left
abbrev pub invariant-loop-path : goal.invariant-loop-path
invariant-loop-path g l = AreAgain l.self.kept.copied l.batch.items (drop l.path-index l.path-items)
