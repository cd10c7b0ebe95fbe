use Rattle.std.proofs.Common.{◌≡◌, ◌++◌, take}
use Rattle.debounce_core.proofs.rename.moved.add_paths.Given as goal

abbrev pub invariant-loop-path : goal.invariant-loop-path
invariant-loop-path g l = l.list.items ≡ l.fn.list.items ++ take l.path-index l.paths
