use Rattle.std.proofs.Common.{◌≡◌, ◌++◌, length, map}
use Rattle.program_logic.specs.Words.Index.{documents_with}
use Rattle.program_logic.proofs.words.index.DocumentIndex.documents_with.Given as goal

abbrev pub decreases-loop-path : goal.decreases-loop-path
decreases-loop-path g l = length l.rest

-- the paths so far, and those of the rest, are those of all
abbrev pub invariant-loop-path : goal.invariant-loop-path
invariant-loop-path g l = map (λ p. p.now) l.paths.items ++ documents_with l.rest l.word
    ≡ documents_with l.self l.word
