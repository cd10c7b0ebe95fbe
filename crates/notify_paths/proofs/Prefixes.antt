-- What lies below a path stands in one run behind it.
use Rattle.std.proofs.Common.{◌≡◌, Bool, true, false, not, ◌&&◌, List, [], ◌∷◌, refl, ap, sym, ◌∙◌, true≢false}
use Rattle.std.specs.Prelude.{filter, if◌then◌else◌}
use Rattle.std.specs.declared.cmp.Ordering.{Ordering}
use Rattle.std.specs.declared.cmp.Ordering.TheVariants.{Less, Equal, Greater}
use Rattle.std.specs.declared.ops.Bound.TheVariants.{Excluded, Unbounded}
use Rattle.std.specs.Ordering.{is_eq, ordering_reverse}
use Rattle.std.specs.List.{AllByRecursion}
use Rattle.std.specs.List.Sorted.{IsStrictlySortedBy}
use Rattle.std.specs.Map.{keys_of}
use Rattle.std.specs.BTreeMap.Range.{range_contains}
use Rattle.std.proofs.lemmas.Cmp.{tied_itself}
use Rattle.notify_paths.specs.Path.{PathValue, part_cmp, path_cmp, is_prefix, is_below}
use Rattle.notify_paths.specs.PathLaws.{part_cmp_total, part_eq_decides, path_cmp_total, path_eq_decides, path_matches_eq}

-- paths that the order ties are the same
pub same_path : (p k : PathValue) → path_cmp p k ≡ Equal → p ≡ k
same_path p k q = (path_eq_decides p k).0 (path_matches_eq p k ∙ ap is_eq q)

-- a path is a prefix of itself
pub prefix_itself : (p : PathValue) → is_prefix p p ≡ true
prefix_itself [] = refl
prefix_itself (x ∷ p) = let t : part_cmp x x ≡ Equal = tied_itself part_cmp_total x in rw t (prefix_itself p)

-- what has p as a prefix stands at p or behind it
pub prefix_not_behind : (p k : PathValue) → is_prefix p k ≡ true → path_cmp p k ≡ Greater → ⊥
prefix_not_behind [] [] b g = cc
prefix_not_behind [] (y ∷ k) b g = cc
prefix_not_behind (x ∷ p) [] b g = true≢false (sym b)
prefix_not_behind (x ∷ p) (y ∷ k) b g = by (part_cmp x y) refl (prefix_not_behind p k)
  where
    by : (o : Ordering) → part_cmp x y ≡ o → (is_prefix p k ≡ true → path_cmp p k ≡ Greater → ⊥) → ⊥
    by Less q more = true≢false (sym (rw q at b))
    by Greater q more = true≢false (sym (rw q at b))
    by Equal q more = more (rw q at b) (rw q at g)

-- behind p, what does not have p as a prefix stands behind all that does
pub run_ends : (p a b : PathValue) → (path_cmp p a ≡ Greater → ⊥) → is_prefix p a ≡ false →
    path_cmp a b ≡ Less → is_prefix p b ≡ false
run_ends [] a b from none up = absurd (true≢false none)
run_ends (x ∷ p) [] b from none up = absurd (from refl)
run_ends (x ∷ p) (y ∷ a) [] from none up = cc
run_ends (x ∷ p) (y ∷ a) (z ∷ b) from none up = by (part_cmp x z) refl (run_ends p a b)
  where
    by : (o : Ordering) → part_cmp x z ≡ o → ((path_cmp p a ≡ Greater → ⊥) → is_prefix p a ≡ false →
        path_cmp a b ≡ Less → is_prefix p b ≡ false) → is_prefix (x ∷ p) (z ∷ b) ≡ false
    by Less q more = rw q refl
    by Greater q more = rw q refl
    by Equal q more = at (part_cmp x y) refl
      where
        same : x ≡ z
        same = (part_eq_decides x z).0 (rw q refl)

        at : (r : Ordering) → part_cmp x y ≡ r → is_prefix (x ∷ p) (z ∷ b) ≡ false
        at Less r = let back : part_cmp y z ≡ Greater = rw (← same) (part_cmp_total.antisymm y x ∙ rw r refl) in
            cc (rw back at up)
        at Greater r = absurd (from (rw r refl))
        at Equal r =
            let here : part_cmp y z ≡ Equal = rw (← same) (part_cmp_total.antisymm y x ∙ rw r refl) in
            rw q (more (λ g. from (rw r g)) (rw r at none) (rw here at up))

-- the path stands behind p
abbrev is_behind : PathValue → PathValue → Bool
is_behind p k = range_contains path_cmp (Excluded p) Unbounded k

-- whether a path lies strictly below p, by how p compares to it
below_by_order : (p k : PathValue) (o : Ordering) → path_cmp p k ≡ o →
    is_below k p ≡ (is_prefix p k && not (is_eq (ordering_reverse o)))
below_by_order p k o q =
    ap (λ b. is_prefix p k && not b) (path_matches_eq k p
    ∙ ap is_eq (path_cmp_total.antisymm k p ∙ ap ordering_reverse q))

-- a test and true
pub and_true : (b : Bool) → (b && true) ≡ b
and_true true = refl
and_true false = refl

-- a test and false
pub and_false : (b : Bool) → (b && false) ≡ false
and_false true = refl
and_false false = refl

-- apart from p itself, what lies at or below p lies strictly below
pub other_below : (p k : PathValue) → (path_cmp p k ≡ Equal → ⊥) → is_below k p ≡ is_prefix p k
other_below p k n = by (path_cmp p k) refl
  where
    by : (o : Ordering) → path_cmp p k ≡ o → is_below k p ≡ is_prefix p k
    by Less q = below_by_order p k Less q ∙ and_true (is_prefix p k)
    by Equal q = absurd (n q)
    by Greater q = below_by_order p k Greater q ∙ and_true (is_prefix p k)

-- what stands in front of p does not have it as a prefix
pub front_no_prefix : (p k : PathValue) → path_cmp p k ≡ Greater → is_prefix p k ≡ false
front_no_prefix p k g = by (is_prefix p k) refl
  where
    by : (b : Bool) → is_prefix p k ≡ b → b ≡ false
    by true q = absurd (prefix_not_behind p k q g)
    by false q = refl

-- what lies strictly below p stands behind it and has it as a prefix
behind_below : (p k : PathValue) → is_below k p ≡ (is_behind p k && is_prefix p k)
behind_below p k = by (path_cmp p k) refl
  where
    by : (o : Ordering) → path_cmp p k ≡ o → is_below k p ≡ (is_behind p k && is_prefix p k)
    by Less q = other_below p k (λ e. cc (e, q)) ∙ rw q refl
    by Equal q = below_by_order p k Equal q ∙ and_false (is_prefix p k) ∙ rw q refl
    by Greater q = other_below p k (λ e. cc (e, q)) ∙ front_no_prefix p k q ∙ rw q refl

-- what stands behind p does not stand in front of it
behind_not_front : (p k : PathValue) → is_behind p k ≡ true → path_cmp p k ≡ Greater → ⊥
behind_not_front p k i g = let f : false ≡ true = rw g at i in true≢false (sym f)

module _ {X : Type 0} (p : PathValue) where
  -- the entries behind p
  abbrev pub entries_behind : List (PathValue × X) → List (PathValue × X)
  entries_behind es = filter (λ e. is_behind p e.0) es

  -- the longest beginning of entries that lie at or below p
  abbrev pub run_below : List (PathValue × X) → List (PathValue × X)
  run_below [] = []
  run_below (e ∷ es) = if is_prefix p e.0 then e ∷ run_below es else []

  -- behind what does not have p as a prefix, nothing lies below p
  none_below : (k : PathValue) (es : List (PathValue × X)) → (path_cmp p k ≡ Greater → ⊥) →
      is_prefix p k ≡ false → AllByRecursion (λ y. path_cmp k y ≡ Less) (keys_of es) →
      filter (λ e. is_below e.0 p) es ≡ []
  none_below k [] from none up = refl
  none_below k (e ∷ es) from none up =
      let no : is_prefix p e.0 ≡ false = run_ends p k e.0 from none up.0 in
      rw no (none_below k es from none up.1)

  -- of ascending entries, those that lie strictly below p are the first behind it
  pub run_is_below : (es : List (PathValue × X)) → IsStrictlySortedBy path_cmp (keys_of es) →
      run_below (entries_behind es) ≡ filter (λ e. is_below e.0 p) es
  unfolding IsStrictlySortedBy
  run_is_below [] s = refl
  run_is_below (e ∷ es) s = by (is_behind p e.0) (is_prefix p e.0) refl refl (run_is_below es s.1)
    where
      by : (b c : Bool) → is_behind p e.0 ≡ b → is_prefix p e.0 ≡ c → run_below (entries_behind es)
          ≡ filter (λ e. is_below e.0 p) es → run_below (entries_behind (e ∷ es))
          ≡ filter (λ e. is_below e.0 p) (e ∷ es)
      by false c i q more = rw (behind_below p e.0, i) more
      by true true i q more = rw (behind_below p e.0, i, q) (ap (λ r. e ∷ r) more)
      by true false i q more =
          rw (behind_below p e.0, i, q) (sym (none_below e.0 es (behind_not_front p e.0 i) q s.0))
