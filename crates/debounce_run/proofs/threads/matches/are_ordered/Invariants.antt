-- From the scripts so far came their commands.
use Rattle.std.proofs.Common.{◌≡◌, ◌<◌, ℕ, [], slice_index_or}
use Rattle.debounce_run.specs.Threads.Merged.{commands_from, script_values}
use Rattle.debounce_run.proofs.threads.matches.are_ordered.Given as goal

abbrev pub invariant-loop-number : goal.invariant-loop-number
invariant-loop-number g l =
    (k : ℕ) → k < l.number → commands_from k l.entries ≡ slice_index_or (script_values l.scripts) k []
