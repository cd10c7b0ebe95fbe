use Rattle.std.proofs.Common.{◌≡◌, ◌++◌, drop}
use Rattle.program_logic.specs.Trigger.Line.{path_fields}
use Rattle.program_logic.proofs.trigger.line.push_paths.Given as goal

-- what is written so far, and then the fields of the paths that are left
abbrev pub invariant-loop-path : goal.invariant-loop-path
invariant-loop-path l = l.line.items ++ path_fields l.folder (drop l.path-index l.paths)
    ≡ l.fn.line.items ++ path_fields l.folder l.fn.paths
