use Rattle.std.proofs.Common.{◌≡◌, ◌++◌, map}
use Rattle.std.specs.Map.{keys_of}
use Rattle.reader_paths.specs.Plan.Naming.{naming}
use Rattle.program_logic.proofs.words.index.DocumentIndex.named.Given as goal

-- the events so far, and those of the paths that are left, are those of all
abbrev pub invariant-loop-path : goal.invariant-loop-path
invariant-loop-path g l = l.batch.items ++ map naming l.path-iterator ≡ map naming (keys_of l.self)
