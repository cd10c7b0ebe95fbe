use Rattle.std.proofs.Common.{◌≡◌, ◌++◌, drop}
use Rattle.std.specs.String.{string_bytes}
use Rattle.mirror_run.specs.Printed.{error_lines}
use Rattle.mirror_run.proofs.print.push_error_lines.Given as goal

-- what is written so far, and then the lines that are left
abbrev pub invariant-loop-error : goal.invariant-loop-error
invariant-loop-error g l = string_bytes l.text ++ error_lines (drop l.error-index l.errors)
    ≡ string_bytes l.fn.text ++ error_lines l.fn.errors
