use Rattle.std.proofs.Common.{◌≡◌, ◌++◌, drop}
use Rattle.std.specs.String.{string_bytes}
use Rattle.mirror_run.specs.Printed.{path_fields}
use Rattle.mirror_run.proofs.print.push_paths.Given as goal

-- what is written so far, and then the fields that are left
abbrev pub invariant-loop-path : goal.invariant-loop-path
invariant-loop-path g l = string_bytes l.text ++ path_fields (drop l.path-index l.paths)
    ≡ string_bytes l.fn.text ++ path_fields l.fn.paths
