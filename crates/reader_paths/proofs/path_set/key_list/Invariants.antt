use Rattle.std.proofs.Common.{◌≡◌, ◌++◌}
use Rattle.std.specs.Map.{keys_of}
use Rattle.reader_paths.proofs.path_set.key_list.Given as goal

-- the copies so far, and then the keys that are left, are the map's
abbrev pub invariant-loop-path : goal.invariant-loop-path
invariant-loop-path g l = l.list.items ++ l.path-iterator ≡ keys_of l.map.entries
