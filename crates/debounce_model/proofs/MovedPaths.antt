-- Paths below a renamed path, before and after the rename.
use Rattle.std.proofs.Common.{◌≡◌, ◌<◌, arith, Bool, true, false, not, ◌&&◌, ◌||◌, [], ◌∷◌, ◌++◌, length, take, drop, refl, ap, sym, ◌∙◌, true≢false}
use Rattle.std.specs.declared.cmp.Ordering.TheVariants.{Equal}
use Rattle.std.specs.BTreeMap.{is_at}
use Rattle.std.proofs.Math.Seq.{take-append_seam, drop-append_seam}
use Rattle.std.proofs.lemmas.List.{take-append-drop}
use Rattle.std.proofs.lemmas.Cmp.{tied_itself}
use Rattle.notify_paths.specs.Path.{PathValue, PartValue, part_cmp, part_eq, path_cmp, path_eq, is_prefix, is_below}
use Rattle.notify_paths.specs.PathMoves.{relocated}
use Rattle.notify_paths.specs.PathLaws.{part_cmp_total, part_eq_equiv, part_eq_decides, path_eq_equiv, path_eq_decides, path_matches_eq}
use Rattle.debounce_model.specs.Moved.{are_apart}

-- where both tests pass, each does
both_pass : (a b : Bool) → (a && b) ≡ true → (a ≡ true) × (b ≡ true)
both_pass true b h = (refl, h)
both_pass false b h = absurd (true≢false (sym h))

-- what is not true is false
pub untrue : (b : Bool) → (b ≡ true → ⊥) → b ≡ false
untrue true h = absurd (h refl)
untrue false h = refl

-- a path that is found at another is that path
pub same_at : (p k : PathValue) → is_at (path_cmp p) k ≡ true → p ≡ k
same_at p k h = (path_eq_decides p k).0 (path_matches_eq p k ∙ h)

-- a path at or below a base is the base and the rest
pub prefix_split : (b p : PathValue) → is_prefix b p ≡ true → p ≡ b ++ drop (length b) p
prefix_split b p h = sym (take-append-drop (length b) p)
    ∙ ap (λ r. r ++ drop (length b) p) (sym ((path_eq_decides b (take (length b) p)).0 h))

-- the base is a prefix of this
prefix-append : (b s : PathValue) → is_prefix b (b ++ s) ≡ true
prefix-append b s = ap (path_eq b) (take-append_seam b s) ∙ path_eq_equiv.refl b

-- .. which is the base itself where the rest is empty
eq-append : (b s : PathValue) → path_eq (b ++ s) b ≡ path_eq s []
eq-append [] s = refl
eq-append (x ∷ b) s = rw (part_eq_equiv.refl x) (eq-append b s)

-- .. and else lies strictly below it
below-append : (b s : PathValue) → is_below (b ++ s) b ≡ not (path_eq s [])
below-append b s = rw (prefix-append b s) (ap not (eq-append b s))

-- the order looks behind a common base
cmp-append : (b x y : PathValue) → path_cmp (b ++ x) (b ++ y) ≡ path_cmp x y
cmp-append [] x y = refl
cmp-append (z ∷ b) x y = let t : part_cmp z z ≡ Equal = tied_itself part_cmp_total z in rw t (cmp-append b x y)

-- what lies strictly below has the base as a prefix
pub below_prefix : (p b : PathValue) → is_below p b ≡ true → is_prefix b p ≡ true
below_prefix p b h = (both_pass (is_prefix b p) (not (path_eq p b)) h).0

module _ (f t : PathValue) where
  -- what lies strictly below f lies strictly below t at its new place
  pub below_relocated : (p : PathValue) → is_below p f ≡ true → is_below (relocated f t p) t ≡ true
  below_relocated p h =
      below-append t (drop (length f) p)
      ∙ sym (below-append f (drop (length f) p))
      ∙ ap (λ q. is_below q f) (sym (prefix_split f p (below_prefix p f h)))
      ∙ h

  -- back from its new place it is where it was
  pub relocated_back : (p : PathValue) → is_prefix f p ≡ true → relocated t f (relocated f t p) ≡ p
  relocated_back p h = ap (λ s. f ++ s) (drop-append_seam t (drop (length f) p)) ∙ sym (prefix_split f p h)

  -- a path below t compares to a new place as its own place below f compares to the old
  pub cmp_relocated : (q p : PathValue) → is_prefix t q ≡ true → is_prefix f p ≡ true →
      path_cmp q (relocated f t p) ≡ path_cmp (relocated t f q) p
  cmp_relocated q p i h =
      ap (λ r. path_cmp r (relocated f t p)) (prefix_split t q i)
      ∙ cmp-append t (drop (length t) q) (drop (length f) p)
      ∙ sym (cmp-append f (drop (length t) q) (drop (length f) p))
      ∙ ap (path_cmp (relocated t f q)) (sym (prefix_split f p h))

-- of two bases of one path one is a prefix of the other
comparable : (f t p : PathValue) → is_prefix f p ≡ true → is_prefix t p ≡ true →
    (is_prefix f t || is_prefix t f) ≡ true
comparable [] t p h k = refl
comparable (x ∷ f) [] p h k = refl
comparable (x ∷ f) (y ∷ t) [] h k = absurd (true≢false (sym h))
comparable (x ∷ f) (y ∷ t) (z ∷ p) h k =
    let a = both_pass (part_eq x z) (is_prefix f p) h in
    let b = both_pass (part_eq y z) (is_prefix t p) k in
    let one : x ≡ z = (part_eq_decides x z).0 a.0 in
    let two : y ≡ z = (part_eq_decides y z).0 b.0 in
    rw (one, two, part_eq_equiv.refl z) (comparable f t p a.1 b.1)

-- nothing lies at or below both of two paths that are apart
pub not_at_both : (f t p : PathValue) → are_apart f t ≡ true → is_prefix f p ≡ true → is_prefix t p ≡ false
not_at_both f t p h i =
    untrue (is_prefix t p) (λ k. no (is_prefix f t) (is_prefix t f) h (comparable f t p i k))
  where
    no : (a b : Bool) → (not a && not b) ≡ true → (a || b) ≡ true → ⊥
    no true b h c = true≢false (sym h)
    no false true h c = true≢false (sym h)
    no false false h c = true≢false (sym c)

-- a path that nothing lies apart from is the empty one: the target of a rename that moves queues is not
pub apart_target : (f t : PathValue) → are_apart f t ≡ true → 0 < length t
apart_target f [] h = by (is_prefix f []) h
  where
    by : (b : Bool) → (not b && false) ≡ true → 0 < length {A = PartValue} []
    by true h = absurd (true≢false (sym h))
    by false h = absurd (true≢false (sym h))
apart_target f (x ∷ t) h = omega arith
