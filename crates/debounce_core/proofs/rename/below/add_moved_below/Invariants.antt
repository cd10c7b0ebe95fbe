use Rattle.std.proofs.Common.{◌≡◌, ◌++◌, map}
use Rattle.notify_paths.proofs.Prefixes.{entries_behind, run_below}
use Rattle.debounce_model.specs.Moved.{moved_entry}
use Rattle.debounce_core.proofs.rename.below.add_moved_below.Given as goal

-- the list goes on by what is left of the run
abbrev pub invariant-loop-path : goal.invariant-loop-path
invariant-loop-path g l =
    let moved = map (moved_entry l.from l.to l.began) in
    l.puts.items ++ moved (run_below l.from l.path-iterator)
    ≡ l.fn.puts.items ++ moved (run_below l.from (entries_behind l.from l.queues.entries))
