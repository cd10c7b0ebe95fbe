use Rattle.std.proofs.Common.{◌≡◌, ◌++◌}
use Rattle.program_copy.specs.After.{again_of}
use Rattle.program_copy.proofs.waiting.batch_of.Given as goal

-- the events so far, and those of the paths that are left, are those of all
abbrev pub invariant-loop-path : goal.invariant-loop-path
invariant-loop-path l = l.batch.items ++ again_of l.path-iterator ≡ again_of l.paths.entries
