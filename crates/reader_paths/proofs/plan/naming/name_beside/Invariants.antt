use Rattle.std.proofs.Common.{◌≡◌, ◌++◌, length}
use Rattle.reader_paths.specs.Plan.Naming.{namings_beside}
use Rattle.reader_paths.proofs.plan.naming.name_beside.Given as goal

abbrev pub decreases-loop-path : goal.decreases-loop-path
decreases-loop-path g l = length l.rest

-- the events so far, and those of the paths that are left, are all
abbrev pub invariant-loop-path : goal.invariant-loop-path
invariant-loop-path g l = l.batch.items ++ namings_beside l.original l.from l.to l.rest
    ≡ l.fn.batch.items ++ namings_beside l.original l.from l.to l.copied
