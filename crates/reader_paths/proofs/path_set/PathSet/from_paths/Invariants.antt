use Rattle.std.proofs.Common.{◌≡◌, []}
use Rattle.std.specs.Vec.Iter.{into_iter_items}
use Rattle.reader_paths.specs.Played.{with_paths}
use Rattle.reader_paths.proofs.path_set.PathSet.from_paths.Given as goal

-- the paths that are left make of the set what all make of none
abbrev pub invariant-loop-path : goal.invariant-loop-path
invariant-loop-path g l = with_paths l.set (into_iter_items l.path-iterator) ≡ with_paths [] l.fn.paths.items
