use Rattle.std.proofs.Common.{◌∙◌, ◌-◌, refl, arith}
use Rattle.notify_paths.proofs.FirstWords.{by_four, by_last, fewer, first_four}
use Rattle.notify_paths.proofs.Words.{reads_four}
use Rattle.notify_paths.proofs.first_words.order_by_halves.Goals as goal

pub returns-then-x-y : goal.returns-then-x-y
returns-then-x-y c =
    rw c.order_in_words.ensures
    (by_four c.args.a.now c.args.b.now 0 c.half_at-x.result c.half_at-y.result (λ j. omega (arith, c.type_inv.a j))
    (λ j. omega (arith, c.type_inv.b j)) c.half_at-x.ensures.value c.half_at-y.ensures.value c.if-x-y.true
    c.half_at-x.ensures.small c.half_at-y.ensures.small (omega (arith, c.requires.both, c.requires.long))
    (omega (arith, c.requires.both, c.requires.long)) refl)

pub returns-then-x-y-2 : goal.returns-then-x-y-2
returns-then-x-y-2 c =
    let a = c.args.a.now in
    let b = c.args.b.now in
    let n = c.args.both in
    rw c.order_in_words-then-x-y-2.ensures
    (by_four a b (n - 4) c.half_at-x-2.result c.half_at-y-2.result (λ j. omega (arith, c.type_inv.a j))
    (λ j. omega (arith, c.type_inv.b j)) c.half_at-x-2.ensures.value c.half_at-y-2.ensures.value c.if-x-y-2.true
    c.half_at-x-2.ensures.small c.half_at-y-2.ensures.small (omega (arith, c.requires.both, c.requires.long))
    (omega (arith, c.requires.both, c.requires.long))
    (fewer a b (n - 4) 4 (omega (arith, c.requires.short)) (first_four a b c.half_at-x.result
    (λ j. omega (arith, c.type_inv.a j)) (λ j. omega (arith, c.type_inv.b j)) c.half_at-x.ensures.value
    (c.if-x-y.false ∙ c.half_at-y.ensures.value) (omega (arith, c.requires.both, c.requires.long))
    (omega (arith, c.requires.both, c.requires.long)))))

pub returns : goal.returns
returns c =
    let a = c.args.a.now in
    let b = c.args.b.now in
    let n = c.args.both in
    let x = c.half_at-x-2.result in
    rw c.cmp.ensures
    (by_last 4 a b n x (reads_four a (n - 4) x (λ j. omega (arith, c.type_inv.a j)) c.half_at-x-2.ensures.value)
    (reads_four b (n - 4) x (λ j. omega (arith, c.type_inv.b j)) (c.if-x-y-2.false ∙ c.half_at-y-2.ensures.value))
    c.requires.long c.requires.both
    (fewer a b (n - 4) 4 (omega (arith, c.requires.short)) (first_four a b c.half_at-x.result
    (λ j. omega (arith, c.type_inv.a j)) (λ j. omega (arith, c.type_inv.b j)) c.half_at-x.ensures.value
    (c.if-x-y.false ∙ c.half_at-y.ensures.value) (omega (arith, c.requires.both, c.requires.long))
    (omega (arith, c.requires.both, c.requires.long)))))
