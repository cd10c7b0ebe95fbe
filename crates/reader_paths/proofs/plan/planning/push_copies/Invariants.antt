use Rattle.std.proofs.Common.{◌≡◌, ◌++◌}
use Rattle.std.specs.Map.{keys_of}
use Rattle.reader_paths.specs.Plan.{look_at, copies}
use Rattle.reader_paths.proofs.plan.planning.push_copies.Given as goal

-- the actions so far, and the copies of what stands at the paths that are left, are all
abbrev pub invariant-loop-path : goal.invariant-loop-path
invariant-loop-path g l = l.actions.items ++ copies (look_at l.standing.entries) l.path-iterator
    ≡ l.fn.actions.items ++ copies (look_at l.standing.entries) (keys_of l.paths.entries)
