use Rattle.std.proofs.Common.{◌≡◌, ◌++◌, drop}
use Rattle.program_logic.specs.Journal.Lines.{zero_paths}
use Rattle.program_logic.proofs.journal.form.push_zero.Given as goal

-- what is written so far, and then the paths that are left
abbrev pub invariant-loop-path : goal.invariant-loop-path
invariant-loop-path l = l.text.items ++ zero_paths (drop l.path-index l.paths)
    ≡ l.fn.text.items ++ zero_paths l.fn.paths
