use Rattle.std.proofs.Common.{◌≡◌, length}
use Rattle.std.specs.List.{list_all}
use Rattle.poll_rounds.specs.Folders.{has_own_length}
use Rattle.test_fakes.proofs.folders.tree.has_own_lengths.Given as goal

abbrev pub decreases-loop-path : goal.decreases-loop-path
decreases-loop-path g l = length l.rest

-- the entries that are left decide
abbrev pub invariant-loop-path : goal.invariant-loop-path
invariant-loop-path g l = list_all has_own_length l.rest ≡ list_all has_own_length l.tree
