-- What is left of the script has to be what is left of the journal.
use Rattle.std.proofs.Common.{◌≡◌, drop}
use Rattle.std.specs.Cmp.Lexicographic.{pointwise}
use Rattle.debounce_model.specs.CommandView.{command_values}
use Rattle.debounce_model.specs.Equality.{command_eq}
use Rattle.debounce_run.specs.Threads.Merged.{commands_from}
use Rattle.debounce_run.proofs.threads.matches.is_script.Given as goal

abbrev pub invariant-loop-entry : goal.invariant-loop-entry
invariant-loop-entry g l =
    pointwise command_eq (commands_from l.number l.entries) (command_values l.script)
    ≡ pointwise command_eq (commands_from l.number (drop l.entry-index l.entries)) (command_values l.rest)
