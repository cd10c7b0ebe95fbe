use Rattle.std.proofs.Common.{◌≡◌, ◌≤◌, ◌++◌, length}
use Rattle.std.specs.HashMap.{spare}
use Rattle.std.specs.List.{IsDistinct}
use Rattle.std.specs.Map.{keys_of}
use Rattle.std.specs.Vec.Iter.{into_iter_items, into_iter_len}
use Rattle.notify_paths.specs.Path.{path_eq}
use Rattle.debounce_cache.specs.FileIdMap.{Holds, numbers_in, with_pairs}
use Rattle.debounce_cache.proofs.file_id_map.put_pairs.Given as goal

-- the pairs so far are in the map, no path is in it twice, and there is room for those that are left
abbrev pub invariant-loop-path : goal.invariant-loop-path
invariant-loop-path g l = record {
  put : Holds l.entries.entries (with_pairs (numbers_in l.fn.entries.entries) l.yielded);
  left : l.yielded ++ into_iter_items l.path-iterator ≡ l.fn.pairs.items;
  counted : length (into_iter_items l.path-iterator) ≡ into_iter_len l.path-iterator;
  law : IsDistinct path_eq (keys_of l.entries.entries);
  room : into_iter_len l.path-iterator ≤ spare l.entries;
}
