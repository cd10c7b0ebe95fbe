-- Removals of entries that a filter leaves out.
use Rattle.std.proofs.Common.{◌≡◌, Bool, true, false, not, cond, List, [], ◌∷◌, ◌&&◌, length, Some, None, refl, ap, sym, subst, ◌∙◌, arith}
use Rattle.std.specs.Prelude.{filter}
use Rattle.std.specs.declared.cmp.Ordering.{Ordering}
use Rattle.std.specs.declared.cmp.Ordering.TheVariants.{Less, Equal, Greater}
use Rattle.std.specs.Ordering.{is_eq}
use Rattle.std.specs.Map.{remove_entry, lookup}
use Rattle.std.specs.BTreeMap.{is_at}
use Rattle.notify_paths.specs.Path.{PathValue, path_cmp, is_prefix, is_below}
use Rattle.notify_paths.specs.Below.{without_below}
use Rattle.notify_paths.specs.PathLaws.{path_eq_decides, path_matches_eq}
use Rattle.notify_paths.proofs.Prefixes.{same_path, prefix_itself, other_below, and_true, and_false}

-- where nothing passes, all is left
pub all_left : {Y : Type 0} (p : Y → Bool) (ys : List Y) → length (filter p ys) ≡ 0 → filter (λ y. not (p y)) ys
    ≡ ys
all_left p [] z = refl
all_left p (y ∷ ys) z = by (p y) refl (all_left p ys)
  where
    by : (b : Bool) → p y ≡ b → (length (filter p ys) ≡ 0 → filter (λ y. not (p y)) ys ≡ ys) →
        filter (λ y. not (p y)) (y ∷ ys) ≡ y ∷ ys
    by true q more = let one : length (y ∷ filter p ys) ≡ 0 = rw q at z in absurd (omega (arith, one))
    by false q more = rw q (ap (λ r. y ∷ r) (more (rw q at z)))

-- a path at p is p
same_at : (p k : PathValue) → is_at (path_cmp p) k ≡ true → p ≡ k
same_at p k h = (path_eq_decides p k).0 (path_matches_eq p k ∙ h)

-- what is not at p and not strictly below it is all that does not lie at or below it
not_at_or_below : (p k : PathValue) → (not (is_below k p) && not (is_at (path_cmp p) k)) ≡ not (is_prefix p k)
not_at_or_below p k = by (path_cmp p k) refl
  where
    apart : (path_cmp p k ≡ Equal → ⊥) → is_at (path_cmp p) k ≡ false →
        (not (is_below k p) && not (is_at (path_cmp p) k)) ≡ not (is_prefix p k)
    apart n f = ap (λ b. not (is_below k p) && not b) f ∙ and_true (not (is_below k p))
        ∙ ap not (other_below p k n)

    by : (o : Ordering) → path_cmp p k ≡ o → (not (is_below k p) && not (is_at (path_cmp p) k))
        ≡ not (is_prefix p k)
    by Less q = apart (λ e. cc (e, q)) (rw q refl)
    by Equal q = ap (λ o. not (is_below k p) && not (is_eq o)) q ∙ and_false (not (is_below k p))
        ∙ sym (ap not (subst (λ y. is_prefix p y ≡ true) (same_path p k q) (prefix_itself p)))
    by Greater q = apart (λ e. cc (e, q)) (rw q refl)

module _ {X : Type 0} where
  -- where no key passes, no entry goes
  absent_left : (t : PathValue → Bool) (es : List (PathValue × X)) → lookup t es ≡ None →
      filter (λ e. not (t e.0)) es ≡ es
  absent_left t [] h = refl
  absent_left t (e ∷ es) h = by (t e.0) refl (absent_left t es)
    where
      by : (b : Bool) → t e.0 ≡ b → (lookup t es ≡ None → filter (λ e. not (t e.0)) es ≡ es) →
          filter (λ e. not (t e.0)) (e ∷ es) ≡ e ∷ es
      by true q more = let one : Some e.1 ≡ None = rw q at h in cc
      by false q more = rw q (ap (λ r. e ∷ r) (more (rw q at h)))

  -- where no key passes any more, all that passed are gone
  all_removed : (t : PathValue → Bool) (es : List (PathValue × X)) → lookup t (remove_entry t es) ≡ None →
      remove_entry t es ≡ filter (λ e. not (t e.0)) es
  all_removed t [] h = refl
  all_removed t (e ∷ es) h = by (t e.0) refl (all_removed t es)
    where
      by : (b : Bool) → t e.0 ≡ b →
          (lookup t (remove_entry t es) ≡ None → remove_entry t es ≡ filter (λ e. not (t e.0)) es) →
          remove_entry t (e ∷ es) ≡ filter (λ e. not (t e.0)) (e ∷ es)
      by true q more = let none : lookup t es ≡ None = rw q at h in rw q (sym (absent_left t es none))
      by false q more = let none : lookup t (remove_entry t es) ≡ None = rw (q, q) at h in
          rw q (ap (λ r. e ∷ r) (more none))

  -- one filter after the other is a filter by both
  filter_twice : (p q : PathValue → Bool) (es : List (PathValue × X)) →
      filter (λ e. q e.0) (filter (λ e. p e.0) es) ≡ filter (λ e. p e.0 && q e.0) es
  filter_twice p q [] = refl
  filter_twice p q (e ∷ es) = by (p e.0) refl (filter_twice p q es)
    where
      by : (b : Bool) → p e.0 ≡ b → filter (λ e. q e.0) (filter (λ e. p e.0) es)
          ≡ filter (λ e. p e.0 && q e.0) es → filter (λ e. q e.0) (filter (λ e. p e.0) (e ∷ es))
          ≡ filter (λ e. p e.0 && q e.0) (e ∷ es)
      by true h more = rw h (ap (λ r. cond (q e.0) (e ∷ r) r) more)
      by false h more = rw h more

  -- without what lies strictly below p and what stood at p, nothing at or below p is left
  pub at_or_below : (p : PathValue) (es : List (PathValue × X)) →
      lookup (is_at (path_cmp p)) (remove_entry (is_at (path_cmp p)) (without_below es p)) ≡ None →
      remove_entry (is_at (path_cmp p)) (without_below es p) ≡ filter (λ e. not (is_prefix p e.0)) es
  at_or_below p es none =
      all_removed (is_at (path_cmp p)) (without_below es p) none
      ∙ filter_twice (λ k. not (is_below k p)) (λ k. not (is_at (path_cmp p) k)) es
      ∙ simp (not_at_or_below p)

  -- what a filter leaves out may be removed first
  pub filter-remove_entry : (p : PathValue → Bool) (k : PathValue) (es : List (PathValue × X)) → p k ≡ false →
      filter (λ e. p e.0) (remove_entry (is_at (path_cmp k)) es) ≡ filter (λ e. p e.0) es
  filter-remove_entry p k [] h = refl
  filter-remove_entry p k (e ∷ es) h = by (is_at (path_cmp k) e.0) refl (filter-remove_entry p k es h)
    where
      by : (b : Bool) → is_at (path_cmp k) e.0 ≡ b → filter (λ e. p e.0) (remove_entry (is_at (path_cmp k)) es)
          ≡ filter (λ e. p e.0) es → filter (λ e. p e.0) (remove_entry (is_at (path_cmp k)) (e ∷ es))
          ≡ filter (λ e. p e.0) (e ∷ es)
      by true q more = let gone : p e.0 ≡ false = rw (same_at k e.0 q) at h in rw (q, gone) refl
      by false q more = rw q (ap (λ r. cond (p e.0) (e ∷ r) r) more)
