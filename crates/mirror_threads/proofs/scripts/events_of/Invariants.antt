-- The events so far are counted.
use Rattle.std.proofs.Common.{◌≡◌, ◌≤◌, map, take}
use Rattle.std.specs.List.{count_by}
use Rattle.debounce_model.specs.CommandView.{command_value}
use Rattle.mirror_threads.specs.Threads.{is_event}
use Rattle.mirror_threads.proofs.scripts.events_of.Given as goal

abbrev pub invariant-loop-number : goal.invariant-loop-number
invariant-loop-number g l = record {
  counted : l.count ≡ count_by is_event (map command_value (take l.number l.commands));
  bound : l.count ≤ l.number;
}
