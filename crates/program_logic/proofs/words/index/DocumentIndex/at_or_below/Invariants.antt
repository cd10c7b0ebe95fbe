use Rattle.std.proofs.Common.{◌≡◌, ◌++◌}
use Rattle.std.specs.Prelude.{filter}
use Rattle.std.specs.Map.{keys_of}
use Rattle.notify_paths.specs.Path.{is_prefix}
use Rattle.program_logic.proofs.words.index.DocumentIndex.at_or_below.Given as goal

-- the paths so far, and those that are left and lie there, are all
abbrev pub invariant-loop-key : goal.invariant-loop-key
invariant-loop-key g l = l.paths.items ++ filter (is_prefix l.path) l.key-iterator
    ≡ filter (is_prefix l.path) (keys_of l.self)
