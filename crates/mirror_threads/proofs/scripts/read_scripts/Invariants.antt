-- The readers so far gave the scripts, and the others are as they were.
use Rattle.std.proofs.Common.{◌≡◌, drop, length, map, take}
use Rattle.mirror_run.specs.Script.ScriptView.{script_value}
use Rattle.mirror_threads.specs.Threads.{AreGiven}
use Rattle.mirror_threads.proofs.scripts.read_scripts.Given as goal

abbrev pub invariant-loop-number : goal.invariant-loop-number
invariant-loop-number g l = record {
  given : AreGiven (map g.R.Read.remaining (take l.number l.fn.readers)) (map script_value l.scripts.items);
  rest : drop l.number l.readers ≡ drop l.number l.fn.readers;
  long : length l.readers ≡ length l.fn.readers;
}
