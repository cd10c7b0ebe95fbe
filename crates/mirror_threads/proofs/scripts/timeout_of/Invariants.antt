-- The scripts so far have the timeout.
use Rattle.std.proofs.Common.{map, take}
use Rattle.mirror_run.specs.Script.ScriptView.{script_value}
use Rattle.mirror_threads.specs.Threads.{HaveTimeout}
use Rattle.mirror_threads.proofs.scripts.timeout_of.Given as goal

abbrev pub invariant-loop-script : goal.invariant-loop-script
invariant-loop-script g l = HaveTimeout (map script_value (take l.script-index l.scripts)) l.timeout
