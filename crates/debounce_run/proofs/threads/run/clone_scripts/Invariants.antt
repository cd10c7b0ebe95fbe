-- The scripts so far are copied.
use Rattle.std.proofs.Common.{◌≡◌, take}
use Rattle.debounce_run.specs.Threads.Merged.{script_values}
use Rattle.debounce_run.proofs.threads.run.clone_scripts.Given as goal

abbrev pub invariant-loop-script : goal.invariant-loop-script
invariant-loop-script g l = script_values l.copies.items ≡ script_values (take l.script-index l.scripts)
