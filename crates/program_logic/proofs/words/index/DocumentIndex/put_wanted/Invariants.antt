use Rattle.std.proofs.Common.{◌≡◌}
use Rattle.std.specs.Map.{keys_of}
use Rattle.program_logic.specs.Words.Index.{put_wanted}
use Rattle.program_logic.proofs.words.index.DocumentIndex.put_wanted.Given as goal

-- what is put in so far, and then the rest
abbrev pub invariant-loop-path : goal.invariant-loop-path
invariant-loop-path g l = put_wanted (keys_of l.paths.entries) l.self l.path-iterator
    ≡ put_wanted (keys_of l.paths.entries) l.fn.self l.fn.read.entries
