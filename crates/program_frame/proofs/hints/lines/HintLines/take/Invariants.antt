use Rattle.std.proofs.Common.{drop}
use Rattle.program_frame.proofs.HintsLemmas.LineLemmas.{Going}
use Rattle.program_frame.proofs.hints.lines.HintLines.take.Given as goal

-- the bytes up to here were taken
abbrev pub invariant-loop-byte : goal.invariant-loop-byte
invariant-loop-byte g l =
    Going g.T.TakesHints.takes l.fn.self l.fn.sink l.fn.bytes l.self l.sink (drop l.byte-index l.bytes)
