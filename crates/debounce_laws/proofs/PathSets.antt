-- Sets of paths: what is in them after one more, and without what lies at or below a path.
use Rattle.std.proofs.Common.{◌≡◌, Bool, true, false, cond, not, ◌&&◌, ◌||◌, ◌⊎◌, inl, inr, [], ◌∷◌, drop, length, refl, sym, ap, ◌∙◌, true≢false, Ordering, Less, Equal, Greater, is_eq}
use Rattle.std.specs.BTreeMap.{is_at}
use Rattle.std.specs.BTreeSet.{insert_key}
use Rattle.std.specs.Ordering.{match_ordering, ordering_reverse}
use Rattle.std.specs.List.{AllByRecursion}
use Rattle.std.specs.List.Sorted.{IsStrictlySortedBy}
use Rattle.std.specs.Prelude.{filter}
use Rattle.std.proofs.lemmas.Map.Views.{any-filter_same}
use Rattle.std.proofs.lemmas.Slice.Eq.{starts_is}
use Rattle.notify_paths.specs.Path.{PathValue, path_cmp, path_eq, is_prefix}
use Rattle.notify_paths.specs.PathLaws.{path_cmp_total, path_eq_equiv, path_eq_decides, part_eq_decides, path_matches_eq}
use Rattle.notify_paths.proofs.Prefixes.{same_path}
use Rattle.debounce_model.specs.Play.{Paths, has_path, with_path, without_at}
use Rattle.debounce_laws.proofs.PathTests.{AtOrBelow}

-- a path at or below another has it as a prefix
pub prefix_of : (p r : PathValue) → AtOrBelow p r → is_prefix p r ≡ true
prefix_of p r b = (starts_is part_eq_decides r p (is_prefix p r) refl).1 b.0 b.1

-- a path with this prefix is at or below it
pub below_prefix : (p r : PathValue) → is_prefix p r ≡ true → AtOrBelow p r
below_prefix p r h = (drop (length p) r, (starts_is part_eq_decides r p (is_prefix p r) refl).0 h)

-- a path is at or below another, or not
pub where_below : (p r : PathValue) → (AtOrBelow p r) ⊎ (AtOrBelow p r → ⊥)
where_below p r = by (is_prefix p r) refl
  where
    by : (b : Bool) → is_prefix p r ≡ b → (AtOrBelow p r) ⊎ (AtOrBelow p r → ⊥)
    by true h = inl (below_prefix p r h)
    by false h = inr (λ b. true≢false (sym (prefix_of p r b) ∙ h))

-- two paths are the same, or not
pub same_or_not : (p q : PathValue) → (q ≡ p) ⊎ (q ≡ p → ⊥)
same_or_not p q = by (path_eq q p) refl
  where
    by : (b : Bool) → path_eq q p ≡ b → (q ≡ p) ⊎ (q ≡ p → ⊥)
    by true h = inl ((path_eq_decides q p).0 h)
    by false h = inr (λ e. true≢false (sym ((path_eq_decides q p).1 e) ∙ h))

-- paths that the order ties are one
pub tied : (path p : PathValue) → is_eq (path_cmp path p) ≡ true → path ≡ p
tied path p e = (path_eq_decides path p).0 (path_matches_eq path p ∙ e)

-- a path is tied to itself
pub tied_to_itself : (p : PathValue) → is_eq (path_cmp p p) ≡ true
tied_to_itself p = sym (path_matches_eq p p) ∙ path_eq_equiv.refl p

-- paths that are not the same are not tied
pub not_tied : (path p : PathValue) → (path ≡ p → ⊥) → is_eq (path_cmp path p) ≡ false
not_tied path p n = by (is_eq (path_cmp path p)) refl
  where
    by : (b : Bool) → is_eq (path_cmp path p) ≡ b → b ≡ false
    by true e = absurd (n (tied path p e))
    by false e = refl

-- three tests, in another order
or_swapped : (a b c : Bool) → (a || (b || c)) ≡ (b || (a || c))
or_swapped true true c = refl
or_swapped true false c = refl
or_swapped false b c = refl

-- a test twice
or_twice : (a b : Bool) → (a || b) ≡ (a || (a || b))
or_twice true b = refl
or_twice false b = refl

-- what is in a set with one more path
pub has_with : (s : Paths) (q p : PathValue) → has_path (with_path s q) p ≡ (path_eq p q || has_path s p)
has_with [] q p = ap (λ b. b || false) (sym (path_matches_eq p q))
has_with (x ∷ s) q p = by (path_cmp q x) refl (has_with s q p)
  where
    by : (o : Ordering) → path_cmp q x ≡ o → has_path (with_path s q) p ≡ (path_eq p q || has_path s p) →
        has_path (match_ordering o (q ∷ x ∷ s) (x ∷ s) (x ∷ insert_key path_cmp s q)) p
        ≡ (path_eq p q || has_path (x ∷ s) p)
    by Less e more = ap (λ b. b || has_path (x ∷ s) p) (sym (path_matches_eq p q))
    by Equal e more =
        let one : q ≡ x = same_path q x e in
        or_twice (is_eq (path_cmp p x)) (has_path s p)
        ∙ ap (λ b. b || has_path (x ∷ s) p) (sym (path_matches_eq p x) ∙ ap (path_eq p) (sym one))
    by Greater e more = ap (λ b. is_eq (path_cmp p x) || b) more
        ∙ or_swapped (is_eq (path_cmp p x)) (path_eq p q) (has_path s p)

-- what is in a set without what lies at or below a path
pub has_without : (s : Paths) (q p : PathValue) → has_path (without_at s q) p
    ≡ (not (is_prefix q p) && has_path s p)
has_without s q p =
    any-filter_same (is_at (path_cmp p)) (λ k. not (is_prefix q k)) (not (is_prefix q p))
    (λ k t. ap (λ r. not (is_prefix q r)) (sym (tied p k t))) s

-- what is above a path stays above it with one more above it
above_with : (x : PathValue) (s : Paths) (q : PathValue) → AllByRecursion (λ y. path_cmp x y ≡ Less) s →
    path_cmp x q ≡ Less → AllByRecursion (λ y. path_cmp x y ≡ Less) (with_path s q)
above_with x [] q a h = (h, tt)
above_with x (y ∷ s) q a h = by (path_cmp q y) (above_with x s q a.1 h)
  where
    by : (o : Ordering) → AllByRecursion (λ z. path_cmp x z ≡ Less) (with_path s q) →
        AllByRecursion (λ z. path_cmp x z ≡ Less)
        (match_ordering o (q ∷ y ∷ s) (y ∷ s) (y ∷ insert_key path_cmp s q))
    by Less more = (h, a)
    by Equal more = a
    by Greater more = (a.0, more)

-- .. without some
above_without : (x : PathValue) (test : PathValue → Bool) (s : Paths) →
    AllByRecursion (λ y. path_cmp x y ≡ Less) s → AllByRecursion (λ y. path_cmp x y ≡ Less) (filter test s)
above_without x test [] a = a
above_without x test (y ∷ s) a = by (test y) (above_without x test s a.1)
  where
    by : (b : Bool) → AllByRecursion (λ z. path_cmp x z ≡ Less) (filter test s) →
        AllByRecursion (λ z. path_cmp x z ≡ Less) (cond b (y ∷ filter test s) (filter test s))
    by true more = (a.0, more)
    by false more = more

-- what is above what is above a path is above it
above_all : (q x : PathValue) (s : Paths) → path_cmp q x ≡ Less → AllByRecursion (λ y. path_cmp x y ≡ Less) s →
    AllByRecursion (λ y. path_cmp q y ≡ Less) s
above_all q x [] l a = tt
above_all q x (y ∷ s) l a = (path_cmp_total.trans q x y l a.0, above_all q x s l a.1)

-- a set with one more path is in order
pub sorted_with : (s : Paths) (q : PathValue) → IsStrictlySortedBy path_cmp s →
    IsStrictlySortedBy path_cmp (with_path s q)
unfolding IsStrictlySortedBy
sorted_with [] q h = (tt, tt)
sorted_with (x ∷ s) q h = by (path_cmp q x) refl (sorted_with s q h.1)
  where
    by : (o : Ordering) → path_cmp q x ≡ o → IsStrictlySortedBy path_cmp (with_path s q) →
        IsStrictlySortedBy path_cmp (match_ordering o (q ∷ x ∷ s) (x ∷ s) (x ∷ insert_key path_cmp s q))
    by Less e more = ((e, above_all q x s e h.0), h)
    by Equal e more = h
    by Greater e more = (above_with x s q h.0 (path_cmp_total.antisymm x q ∙ ap ordering_reverse e), more)

-- .. without some paths
pub sorted_without : (s : Paths) (test : PathValue → Bool) → IsStrictlySortedBy path_cmp s →
    IsStrictlySortedBy path_cmp (filter test s)
unfolding IsStrictlySortedBy
sorted_without [] test h = h
sorted_without (x ∷ s) test h = by (test x) (sorted_without s test h.1)
  where
    by : (b : Bool) → IsStrictlySortedBy path_cmp (filter test s) →
        IsStrictlySortedBy path_cmp (cond b (x ∷ filter test s) (filter test s))
    by true more = (above_without x test s h.0, more)
    by false more = more
