-- Paths with more parts after them.
use Rattle.std.proofs.Common.{◌≡◌, Bool, true, false, [], ◌∷◌, ◌++◌, drop, length, refl, ap, sym, subst, ◌∙◌, true≢false}
use Rattle.std.specs.declared.cmp.Ordering.{Ordering}
use Rattle.std.specs.declared.cmp.Ordering.TheVariants.{Less, Equal, Greater}
use Rattle.std.specs.BTreeMap.{is_at}
use Rattle.std.proofs.lemmas.Cmp.{tied_itself}
use Rattle.notify_paths.specs.Path.{PathValue, PartValue, part_cmp, path_cmp, is_prefix}
use Rattle.notify_paths.specs.PathLaws.{part_cmp_total, part_eq_decides, path_eq_decides, path_matches_eq}
use Rattle.notify_paths.proofs.Prefixes.{prefix_itself}

-- behind the same parts, prefixes are those of the rest
pub prefix-front : (p a b : PathValue) → is_prefix (p ++ a) (p ++ b) ≡ is_prefix a b
prefix-front [] a b = refl
prefix-front (x ∷ p) a b = let t : part_cmp x x ≡ Equal = tied_itself part_cmp_total x in
    rw t (prefix-front p a b)

-- a path is a prefix of what has more parts behind it
pub prefix-append : (p r : PathValue) → is_prefix p (p ++ r) ≡ true
prefix-append [] [] = refl
prefix-append [] (y ∷ r) = refl
prefix-append (x ∷ p) r = let t : part_cmp x x ≡ Equal = tied_itself part_cmp_total x in
    rw t (prefix-append p r)

-- .. and what has one more part is no prefix of the path
pub longer_no_prefix : (p : PathValue) (x : PartValue) (r : PathValue) → is_prefix (p ++ x ∷ r) p ≡ false
longer_no_prefix [] x r = refl
longer_no_prefix (y ∷ p) x r = let t : part_cmp y y ≡ Equal = tied_itself part_cmp_total y in
    rw t (longer_no_prefix p x r)

-- what has a path as a prefix is the path and the rest
pub prefix-rest : (p q : PathValue) → is_prefix p q ≡ true → q ≡ p ++ drop (length p) q
prefix-rest [] q h = refl
prefix-rest (x ∷ p) [] h = absurd (true≢false (sym h))
prefix-rest (x ∷ p) (y ∷ q) h = by (part_cmp x y) refl (prefix-rest p q)
  where
    by : (o : Ordering) → part_cmp x y ≡ o → (is_prefix p q ≡ true → q ≡ p ++ drop (length p) q) →
        y ∷ q ≡ x ∷ (p ++ drop (length p) q)
    by Less e more = absurd (true≢false (sym (rw e at h)))
    by Greater e more = absurd (true≢false (sym (rw e at h)))
    by Equal e more =
        let same : x ≡ y = (part_eq_decides x y).0 (rw e refl) in
        let rest : q ≡ p ++ drop (length p) q = more (rw e at h) in
        ap (λ z. z ∷ q) (sym same) ∙ ap (λ r. x ∷ r) rest

-- the rest
pub drop-append : (p r : PathValue) → drop (length p) (p ++ r) ≡ r
drop-append [] r = refl
drop-append (x ∷ p) r = drop-append p r

-- a path that is another's is tied to it
pub at-same : (q p : PathValue) → is_at (path_cmp q) p ≡ true → q ≡ p
at-same q p h = (path_eq_decides q p).0 (path_matches_eq q p ∙ h)

-- a path that isn't at or below another isn't it
pub at-no_prefix : (q p : PathValue) → is_prefix p q ≡ false → is_at (path_cmp q) p ≡ false
at-no_prefix q p h = by (is_at (path_cmp q) p) refl
  where
    by : (b : Bool) → is_at (path_cmp q) p ≡ b → b ≡ false
    by true e = let same : q ≡ p = at-same q p e in
        absurd (true≢false (sym (prefix_itself p) ∙ subst (λ z. is_prefix p z ≡ false) same h))
    by false e = refl

-- a path with one more part isn't the path
pub at-longer : (p : PathValue) (x : PartValue) (r : PathValue) → is_at (path_cmp (p ++ x ∷ r)) p ≡ false
at-longer p x r = by (is_at (path_cmp (p ++ x ∷ r)) p) refl
  where
    by : (b : Bool) → is_at (path_cmp (p ++ x ∷ r)) p ≡ b → b ≡ false
    by true e = let same : p ++ x ∷ r ≡ p = at-same (p ++ x ∷ r) p e in
        absurd (true≢false (sym (prefix_itself p)
        ∙ subst (λ z. is_prefix z p ≡ false) same (longer_no_prefix p x r)))
    by false e = refl
