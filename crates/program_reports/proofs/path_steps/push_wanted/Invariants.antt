use Rattle.std.proofs.Common.{◌≡◌, ◌++◌, map}
use Rattle.std.specs.Map.{keys_of}
use Rattle.reader_paths.specs.Plan.Naming.{naming}
use Rattle.program_reports.proofs.path_steps.push_wanted.Given as goal

-- the steps so far, and the paths that are left, are all
abbrev pub invariant-loop-path : goal.invariant-loop-path
invariant-loop-path l = l.steps.items ++ map naming l.path-iterator
    ≡ l.fn.steps.items ++ map naming (keys_of l.paths.entries)
