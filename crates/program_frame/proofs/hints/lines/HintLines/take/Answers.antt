use Rattle.std.proofs.Common.{◌≡◌, ◌∙◌, sym, subst, drop, get_or, drop-cons, add-one}
use Rattle.std.proofs.lemmas.Bool.{eq-eqb, ne_eqb}
use Rattle.program_frame.specs.Hints.Lines.{end_byte}
use Rattle.program_frame.proofs.HintsLemmas.LineLemmas.{Going, going_push, going_give, going_stop}
use Rattle.program_frame.proofs.hints.lines.HintLines.take.Goals as goal
use Rattle.program_frame.proofs.hints.lines.HintLines.take.Goals.{then-byte-end, else-byte-end+else-not-give}

pub loop-byte-preserved : goal.loop-byte-preserved
loop-byte-preserved g c =
    let takes = g.T.TakesHints.takes in
    let first = c.args.self.now in
    let xs = c.args.bytes.now in
    let i = c.loop-byte.byte-index in
    let end : c.byte-end.result ≡ end_byte first.ends = rw (← c.self.view_is) c.byte-end.ensures in
    let rest = drop-cons xs i 0 c.loop-byte-test.true in
    let going = subst (λ left. Going takes first c.args.sink.now xs c.loop-byte.self c.loop-byte.sink left) rest
    c.loop-byte.invariant in
    subst (λ n. Going takes first c.args.sink.now xs c.if-byte-end.self c.if-byte-end.sink (drop n xs))
    (sym (add-one i))
    (elim c.if-byte-end.branch [
      | then-byte-end w ↦
          rw w.sink-is (going_push takes first c.args.sink.now xs c.loop-byte.self c.if-byte-end.self c.loop-byte.sink
          (get_or xs i 0) _ going (ne_eqb _ _ (λ e. w.if-byte-end.true (e ∙ sym end)))
          (w.self-is ∙ w.push.ensures))
      | else-byte-end+else-not-give w ↦
          rw w.sink-is (going_give takes first c.args.sink.now xs c.loop-byte.self c.if-byte-end.self c.loop-byte.sink
          w.give.new.sink (get_or xs i 0) _ going (eq-eqb _ _ (w.if-byte-end.false ∙ end))
          w.if-not-give.ensures.given (w.self-is ∙ w.give.ensures.left))
    ])

pub returns-then-not-give-clause-stopped : goal.returns-then-not-give-clause-stopped
returns-then-not-give-clause-stopped g c = λ line h no more.
    let takes = g.T.TakesHints.takes in
    let first = c.args.self.now in
    let xs = c.args.bytes.now in
    let i = c.loop-byte.byte-index in
    let end : c.byte-end.result ≡ end_byte first.ends = rw (← c.self.view_is) c.byte-end.ensures in
    let rest = drop-cons xs i 0 c.loop-byte-test.true in
    let going = subst (λ left. Going takes first c.args.sink.now xs c.loop-byte.self c.loop-byte.sink left) rest
    c.loop-byte.invariant in
    going_stop takes first c.args.sink.now xs c.loop-byte.self c.loop-byte.sink c.give.new.sink (get_or xs i 0) _
    going (eq-eqb _ _ (c.if-byte-end.false ∙ end)) c.if-not-give.ensures.given line h more
