use Rattle.std.proofs.Common.{◌≡◌, ◌++◌, map, take}
use Rattle.debounce_model.specs.Moved.{moved_path}
use Rattle.debounce_core.proofs.rename.moved.add_moved_paths.Given as goal

abbrev pub invariant-loop-path : goal.invariant-loop-path
invariant-loop-path g l =
    l.list.items ≡ l.fn.list.items ++ map (moved_path l.from l.to) (take l.path-index l.paths)
