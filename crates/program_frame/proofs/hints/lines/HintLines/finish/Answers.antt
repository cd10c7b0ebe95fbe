use Rattle.std.proofs.Common.{sym}
use Rattle.program_frame.proofs.HintsLemmas.LineLemmas.{last_given}
use Rattle.program_frame.proofs.hints.lines.HintLines.finish.Goals as goal

pub returns-then-is_begun : goal.returns-then-is_begun
returns-then-is_begun g c = λ line h.
    last_given g.T.TakesHints.takes c.args.self.now c.give.result c.args.sink.now c.give.new.sink
    (sym c.if-is_begun.ensures) c.give.ensures.given line h
