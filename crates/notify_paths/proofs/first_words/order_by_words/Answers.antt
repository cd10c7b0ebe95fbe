use Rattle.std.proofs.Common.{◌∙◌, ◌-◌, arith}
use Rattle.notify_paths.proofs.FirstWords.{by_eight, by_last, fewer}
use Rattle.notify_paths.proofs.Words.{reads_eight}
use Rattle.notify_paths.proofs.first_words.order_by_words.Goals as goal

pub returns-then-x-y : goal.returns-then-x-y
returns-then-x-y c =
    rw c.order_in_words.ensures
    (by_eight c.args.a.now c.args.b.now c.loop-i.i c.word_at-x.result c.word_at-y.result
    (λ j. omega (arith, c.type_inv.a j)) (λ j. omega (arith, c.type_inv.b j)) c.word_at-x.ensures
    c.word_at-y.ensures c.if-x-y.true (omega (arith, c.word_at-x.type_inv)) (omega (arith, c.word_at-y.type_inv))
    (omega (arith, c.min-both.ensures, c.loop-i-test.true)) (omega (arith, c.min-both.ensures, c.loop-i-test.true))
    c.loop-i.invariant.same)

pub returns-then-x-y-2 : goal.returns-then-x-y-2
returns-then-x-y-2 c =
    let a = c.args.a.now in
    let b = c.args.b.now in
    let i = c.min-both.result - 8 in
    rw c.order_in_words-then-x-y-2.ensures
    (by_eight a b i c.word_at-x-2.result c.word_at-y-2.result (λ j. omega (arith, c.type_inv.a j))
    (λ j. omega (arith, c.type_inv.b j)) c.word_at-x-2.ensures c.word_at-y-2.ensures c.if-x-y-2.true
    (omega (arith, c.word_at-x-2.type_inv)) (omega (arith, c.word_at-y-2.type_inv))
    (omega (arith, c.min-both.ensures, c.if-both-lt8.false))
    (omega (arith, c.min-both.ensures, c.if-both-lt8.false))
    (fewer a b i c.loop-i.i (omega (arith, c.loop-i-test.false)) c.loop-i.invariant.same))

pub returns : goal.returns
returns c =
    let a = c.args.a.now in
    let b = c.args.b.now in
    let n = c.min-both.result in
    let x = c.word_at-x-2.result in
    rw c.cmp.ensures
    (by_last 8 a b n x (reads_eight a (n - 8) x (λ j. omega (arith, c.type_inv.a j)) c.word_at-x-2.ensures)
    (reads_eight b (n - 8) x (λ j. omega (arith, c.type_inv.b j)) (c.if-x-y-2.false ∙ c.word_at-y-2.ensures))
    (omega (arith, c.if-both-lt8.false)) c.min-both.ensures
    (fewer a b (n - 8) c.loop-i.i (omega (arith, c.loop-i-test.false)) c.loop-i.invariant.same))
