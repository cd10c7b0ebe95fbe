-- The commands so far are counted, and the events among them.
use Rattle.std.proofs.Common.{◌≡◌, ◌≤◌, ◌*◌, map, take}
use Rattle.mirror_run.specs.Script.ScriptView.{script_value}
use Rattle.mirror_threads.specs.Threads.{command_count, event_count}
use Rattle.mirror_threads.proofs.scripts.counts_of.Given as goal

abbrev pub invariant-loop-number : goal.invariant-loop-number
invariant-loop-number g l = record {
  commands : l.commands ≡ command_count (map script_value (take l.number l.scripts));
  events : l.events ≡ event_count (map script_value (take l.number l.scripts));
  fewer : l.events ≤ l.commands;
  room : l.commands ≤ l.number * 18446744073709551615;
}
