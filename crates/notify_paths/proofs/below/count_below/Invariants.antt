use Rattle.std.proofs.Common.{◌≡◌, length, ◌+◌, ◌≤◌}
use Rattle.notify_paths.proofs.Prefixes.{entries_behind, run_below}
use Rattle.notify_paths.proofs.below.count_below.Given as goal

-- the keys so far are the first of the run
abbrev pub invariant-loop-key : goal.invariant-loop-key
invariant-loop-key g l = record {
  counted : l.count + length (run_below l.path l.key-iterator)
      ≡ length (run_below l.path (entries_behind l.path l.map.entries));
  bound : l.count + length l.key-iterator ≤ length (entries_behind l.path l.map.entries);
}
