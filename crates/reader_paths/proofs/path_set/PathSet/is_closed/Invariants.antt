use Rattle.std.proofs.Common.{◌≡◌}
use Rattle.std.specs.List.{list_all}
use Rattle.debounce_model.specs.Honest.{has_folders, is_closed}
use Rattle.reader_paths.proofs.path_set.PathSet.is_closed.Given as goal

-- the paths that are left decide whether the set is closed
abbrev pub invariant-loop-path : goal.invariant-loop-path
invariant-loop-path g l = list_all (has_folders l.self) l.path-iterator ≡ is_closed l.self
