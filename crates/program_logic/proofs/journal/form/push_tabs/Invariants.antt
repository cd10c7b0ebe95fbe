use Rattle.std.proofs.Common.{◌≡◌, ◌++◌, drop}
use Rattle.program_logic.specs.Journal.Lines.{tab_paths}
use Rattle.program_logic.proofs.journal.form.push_tabs.Given as goal

-- what is written so far, and then the paths that are left
abbrev pub invariant-loop-path : goal.invariant-loop-path
invariant-loop-path l = l.text.items ++ tab_paths (drop l.path-index l.paths)
    ≡ l.fn.text.items ++ tab_paths l.fn.paths
