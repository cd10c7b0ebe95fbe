use Rattle.std.proofs.Common.{◌≡◌, ◌++◌, length}
use Rattle.reader_paths.specs.Plan.Naming.{namings}
use Rattle.reader_paths.proofs.plan.naming.name_listed.Given as goal

abbrev pub decreases-loop-path : goal.decreases-loop-path
decreases-loop-path g l = length l.rest

-- the events so far, and those of the paths that are left, are all
abbrev pub invariant-loop-path : goal.invariant-loop-path
invariant-loop-path g l = l.batch.items ++ namings l.folder l.rest
    ≡ l.fn.batch.items ++ namings l.folder l.listing
