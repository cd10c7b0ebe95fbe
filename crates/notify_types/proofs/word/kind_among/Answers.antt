use Rattle.std.proofs.Common.{◌≡◌, ℕ, ◌<◌, ◌≤◌, ◌+◌, true, false, List, [], ◌∷◌, Some, length, get_or, drop, sym, ◌∙◌, add-one, drop-cons, arith}
use Rattle.std.proofs.lemmas.Bool.{cond-true, cond-false}
use Rattle.std.proofs.lemmas.Grind.{common_steps}
use Rattle.std.specs.Str.{bytes_eq}
use Rattle.notify_types.specs.declared.kind.EventKind.{EventKind}
use Rattle.notify_types.specs.declared.kind.EventKind.TheVariants.{Any}
use Rattle.notify_types.specs.KindWords.{word_of, kind_among}
use Rattle.notify_types.proofs.word.kind_among.Goals as goal

-- the item, and the others
cut : (ks : List EventKind) (i : ℕ) → i < length ks → drop i ks ≡ get_or ks i Any ∷ drop (i + 1) ks
cut ks i h = rw add-one (drop-cons ks i Any h)

-- an item that has another word is passed over
passed : (k : EventKind) (ks : List EventKind) (w : List ℕ) → bytes_eq w (word_of k) ≡ false →
    kind_among (k ∷ ks) w ≡ kind_among ks w
passed k ks w e = cond-false (bytes_eq w (word_of k)) _ _ e

-- an item that has the word is the answer
met : (k : EventKind) (ks : List EventKind) (w : List ℕ) → bytes_eq w (word_of k) ≡ true → kind_among (k ∷ ks) w
    ≡ Some k
met k ks w e = cond-true (bytes_eq w (word_of k)) _ _ e

-- nothing is left at the end
ended : (ks : List EventKind) (i : ℕ) → length ks ≤ i → drop i ks ≡ []
ended ks i h = grind (arith, common_steps)

pub loop-kind-preserved : goal.loop-kind-preserved
loop-kind-preserved c =
    let ks = c.args.kinds.now in
    let n = c.loop-kind.kind-index in
    let e : bytes_eq c.args.word.now (word_of (get_or ks n Any)) ≡ false =
    rw (← c.word.ensures.word) (sym c.eq.ensures ∙ c.if-eq.false) in
    sym (passed (get_or ks n Any) (drop (n + 1) ks) c.args.word.now e)
    ∙ rw (cut ks n c.loop-kind-test.true) at c.loop-kind.invariant

pub returns-then-eq : goal.returns-then-eq
returns-then-eq c =
    let ks = c.args.kinds.now in
    let n = c.loop-kind.kind-index in
    let e : bytes_eq c.args.word.now (word_of (get_or ks n Any)) ≡ true =
    rw (← c.word.ensures.word) (sym c.eq.ensures ∙ c.if-eq.true) in
    sym (met (get_or ks n Any) (drop (n + 1) ks) c.args.word.now e)
    ∙ rw (cut ks n c.loop-kind-test.true) at c.loop-kind.invariant

pub returns : goal.returns
returns c = rw (ended c.args.kinds.now c.loop-kind.kind-index c.loop-kind-test.false) at c.loop-kind.invariant
