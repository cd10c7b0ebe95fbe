use Rattle.std.proofs.Common.{length, map}
use Rattle.std.specs.String.{string_bytes}
use Rattle.test_fakes.proofs.FoldersLemmas.NameLemmas.{AreSoFar}
use Rattle.test_fakes.proofs.folders.tree.names_in.Given as goal

abbrev pub decreases-loop-path : goal.decreases-loop-path
decreases-loop-path g l = length l.rest

-- these are the names so far
abbrev pub invariant-loop-path : goal.invariant-loop-path
invariant-loop-path g l = AreSoFar l.tree l.folder l.rest (map string_bytes l.names.items)
