-- The first words that differ say where the texts do.
use Rattle.std.proofs.Common.{◌*◌, arith}
use Rattle.notify_paths.proofs.Words.{digits_as_bytes, digit_apart, reads_eight}
use Rattle.notify_paths.proofs.order.common_len.Goals as goal

pub returns-then-count-both-clause-same : goal.returns-then-count-both-clause-same
returns-then-count-both-clause-same c =
    let a = c.args.a.now in
    let b = c.args.b.now in
    let i = c.common_words-count.result * 8 in
    let n = c.common_bytes.result in
    let s = c.common_bytes.ensures in
    digits_as_bytes 8 a b i c.word_at.result c.word_at-then-count-both.result
    (reads_eight a i c.word_at.result (λ j. omega (arith, c.type_inv.a j)) c.word_at.ensures)
    (reads_eight b i c.word_at-then-count-both.result (λ j. omega (arith, c.type_inv.b j))
    c.word_at-then-count-both.ensures) n (omega (arith, s.within)) (omega (arith, s.within))
    (omega (arith, s.within)) s.same
    c.common_words-count.ensures.same

pub returns-then-count-both-clause-stop : goal.returns-then-count-both-clause-stop
returns-then-count-both-clause-stop c h k =
    let a = c.args.a.now in
    let b = c.args.b.now in
    let i = c.common_words-count.result * 8 in
    let s = c.common_bytes.ensures in
    digit_apart 8 a b i c.word_at.result c.word_at-then-count-both.result
    (reads_eight a i c.word_at.result (λ j. omega (arith, c.type_inv.a j)) c.word_at.ensures)
    (reads_eight b i c.word_at-then-count-both.result (λ j. omega (arith, c.type_inv.b j))
    c.word_at-then-count-both.ensures) c.common_bytes.result s.within s.same s.stop
