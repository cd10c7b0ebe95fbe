-- One place more at which no line begins with the word.
use Rattle.std.proofs.Common.{◌≡◌, ◌∙◌, ℕ, nat_eq, List, false, ap, codes, drop, arith, sym}
use Rattle.std.proofs.lemmas.List.{take_rest}
use Rattle.std.specs.List.{starts_with}
use borrow.Author.Count.{below_more}
use Rattle.mirror_threads.specs.Threads.{BeginsLine}
use Rattle.mirror_threads.proofs.scripts.counts_line.Goals as goal

pub loop-at-preserved : goal.loop-at-preserved
loop-at-preserved c =
    let bytes = c.args.bytes.now in
    let other = ap (λ (xs : List ℕ). starts_with nat_eq xs (codes "counts")) (sym (take_rest bytes c.loop-at.at))
    ∙ sym c.starts_with.ensures.value ∙ c.if-starts_with.false in
    below_more (λ k. BeginsLine bytes k → starts_with nat_eq (drop k bytes) (codes "counts") ≡ false)
    c.loop-at.at c.loop-at.invariant (λ begins. other)

pub loop-at-preserved-then-not-begins_line : goal.loop-at-preserved-then-not-begins_line
loop-at-preserved-then-not-begins_line c =
    let bytes = c.args.bytes.now in
    below_more (λ k. BeginsLine bytes k → starts_with nat_eq (drop k bytes) (codes "counts") ≡ false)
    c.loop-at.at c.loop-at.invariant (λ begins. let no = c.if-not-begins_line.ensures.1 begins in cc)

pub returns-clause-none : goal.returns-clause-none
returns-clause-none c = λ h.
    let other = c.loop-at.invariant h.0 (omega (arith, h.1)) h.2 in
    let word = h.3 in
    cc
