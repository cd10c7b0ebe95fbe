use Rattle.program_frame.proofs.HintsLemmas.ReadLemmas.{Read}
use Rattle.program_frame.proofs.hints.reading.read_hints.Given as goal

-- what was read so far was given
abbrev pub invariant-loop : goal.invariant-loop
invariant-loop g l =
    Read g.T.TakesHints.takes l.fn.lines (g.S.Read.remaining l.fn.source) l.fn.sink l.lines
    (g.S.Read.remaining l.source) l.sink
