use Rattle.std.proofs.Common.{◌+◌, ◌*◌, ◌∙◌, arith}
use Rattle.notify_paths.proofs.Words.{same_eight, eight_more}
use Rattle.notify_paths.proofs.order.common_words.Goals as goal

pub loop-k-preserved : goal.loop-k-preserved
loop-k-preserved c =
    let a = c.args.a.now in
    let b = c.args.b.now in
    let i = c.loop-k.k * 8 in
    eight_more a b i ((c.loop-k.k + 1) * 8) (omega arith) (omega (arith, c.requires.a, c.loop-k-test.true))
    (omega (arith, c.requires.b, c.loop-k-test.true))
    (same_eight a b i c.word_at.result (λ j. omega (arith, c.type_inv.a j)) (λ j. omega (arith, c.type_inv.b j))
    c.word_at.ensures (c.if-word_at.false ∙ c.word_at-in-loop-k.ensures))
    c.loop-k.invariant
