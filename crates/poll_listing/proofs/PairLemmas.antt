-- Two listings side by side: the pairs ascend, and each side of them is one of the listings.
use Rattle.std.proofs.Common.{◌≡◌, true, List, [], ◌∷◌, map, refl, ap, sym, subst, ◌∙◌, Some, None}
use Rattle.std.specs.Prelude.{Option}
use Rattle.std.specs.declared.cmp.Ordering.{Ordering}
use Rattle.std.specs.declared.cmp.Ordering.TheVariants.{Less, Equal, Greater}
use Rattle.std.specs.Ordering.{match_ordering, is_eq}
use Rattle.std.specs.List.{AllByRecursion}
use Rattle.std.specs.List.Sorted.{IsStrictlySortedBy}
use Rattle.std.specs.Map.{keys_of}
use Rattle.std.specs.BTreeMap.{is_at}
use Rattle.std.proofs.lemmas.Cmp.{tied_itself}
use Rattle.notify_paths.specs.Path.{PathValue, path_cmp}
use Rattle.notify_paths.specs.PathLaws.{path_cmp_total}
use Rattle.notify_paths.proofs.Prefixes.{same_path}
use Rattle.poll_listing.specs.declared.entry.Found.{Found}
use Rattle.poll_listing.specs.Listing.{ListingValue, entry_at}
use Rattle.poll_listing.specs.Pairs.{PairValue, paired, paired_into, only_old, only_new, both}

-- each of these paths is above x
abbrev pub AreAbove : PathValue → List PathValue → Type 0
AreAbove x ks = AllByRecursion (λ k. path_cmp x k ≡ Less) ks

-- what is above a greater path is above a lesser one
pub above-trans : (x y : PathValue) → path_cmp x y ≡ Less → (ks : List PathValue) → AreAbove y ks →
    AreAbove x ks
above-trans x y q [] a = a
above-trans x y q (k ∷ ks) a = (path_cmp_total.trans x y k q a.0, above-trans x y q ks a.1)

-- a path that is greater one way round is less the other way
pub turned : (x y : PathValue) → path_cmp x y ≡ Greater → path_cmp y x ≡ Less
turned x y q = path_cmp_total.antisymm y x ∙ rw q refl

-- .. and the other way
pub turned_less : (x y : PathValue) → path_cmp x y ≡ Less → path_cmp y x ≡ Greater
turned_less x y q = path_cmp_total.antisymm y x ∙ rw q refl

-- a path is at itself
pub at_itself : (x : PathValue) → is_at (path_cmp x) x ≡ true
at_itself x = ap is_eq (tied_itself path_cmp_total x)

-- the paths of these pairs are above x
abbrev pub IsAbove : PathValue → List PairValue → Type 0
IsAbove x ps = AllByRecursion (λ p. path_cmp x p.path ≡ Less) ps

-- the paths of these pairs ascend
abbrev pub Ascend : List PairValue → Type 0
Ascend [] = Unit {0}
Ascend (p ∷ ps) = IsAbove p.path ps × Ascend ps

-- new entries alone stay above x
above-new : (x : PathValue) (ns : ListingValue) → AreAbove x (keys_of ns) → IsAbove x (map only_new ns)
above-new x [] a = a
above-new x (n ∷ ns) a = (a.0, above-new x ns a.1)

-- .. with one old entry
above-into : (x : PathValue) (o : PathValue × Found) (os : ListingValue) → path_cmp x o.0 ≡ Less →
    ((ns : ListingValue) → AreAbove x (keys_of ns) → IsAbove x (paired os ns)) → (ns : ListingValue) →
    AreAbove x (keys_of ns) → IsAbove x (paired_into o (paired os) ns)
above-into x o os first rest [] a = (first, rest [] a)
above-into x o os first rest (n ∷ ns) a = by (path_cmp o.0 n.0) (above-into x o os first rest ns a.1)
  where
    by : (r : Ordering) → IsAbove x (paired_into o (paired os) ns) →
        IsAbove x (match_ordering r (only_old o ∷ paired os (n ∷ ns)) (both o n ∷ paired os ns)
        (only_new n ∷ paired_into o (paired os) ns))
    by Less more = (first, rest (n ∷ ns) a)
    by Equal more = (first, rest ns a.1)
    by Greater more = (a.0, more)

-- entries above x are above it side by side
above-paired : (x : PathValue) (os ns : ListingValue) → AreAbove x (keys_of os) → AreAbove x (keys_of ns) →
    IsAbove x (paired os ns)
above-paired x [] ns b a = above-new x ns a
above-paired x (o ∷ os) ns b a = above-into x o os b.0 (λ ms c. above-paired x os ms b.1 c) ns a

-- new entries alone ascend
ascend-new : (ns : ListingValue) → IsStrictlySortedBy path_cmp (keys_of ns) → Ascend (map only_new ns)
unfolding IsStrictlySortedBy
ascend-new [] s = tt
ascend-new (n ∷ ns) s = (above-new n.0 ns s.0, ascend-new ns s.1)

-- .. with one old entry
ascend-into : (o : PathValue × Found) (os : ListingValue) → AreAbove o.0 (keys_of os) →
    ((ns : ListingValue) → IsStrictlySortedBy path_cmp (keys_of ns) → Ascend (paired os ns)) →
    (ns : ListingValue) → IsStrictlySortedBy path_cmp (keys_of ns) → Ascend (paired_into o (paired os) ns)
unfolding IsStrictlySortedBy
ascend-into o os b rest [] s = (above-paired o.0 os [] b tt, rest [] s)
ascend-into o os b rest (n ∷ ns) s = by (path_cmp o.0 n.0) refl (ascend-into o os b rest ns s.1)
  where
    by : (r : Ordering) → path_cmp o.0 n.0 ≡ r → Ascend (paired_into o (paired os) ns) →
        Ascend (match_ordering r (only_old o ∷ paired os (n ∷ ns)) (both o n ∷ paired os ns)
        (only_new n ∷ paired_into o (paired os) ns))
    by Less q more = (
      above-paired o.0 os (n ∷ ns) b (q, above-trans o.0 n.0 q (keys_of ns) s.0),
      rest (n ∷ ns) s,
    )
    by Equal q more = (
      above-paired o.0 os ns b (subst (λ x. AreAbove x (keys_of ns)) (sym (same_path o.0 n.0 q)) s.0),
      rest ns s.1,
    )
    by Greater q more =
        let less = turned o.0 n.0 q in (
          above-into n.0 o os less (λ ms c. above-paired n.0 os ms (above-trans n.0 o.0 less (keys_of os) b) c)
              ns s.0,
          more,
        )

-- ascending entries ascend side by side
pub ascend-paired : (os ns : ListingValue) → IsStrictlySortedBy path_cmp (keys_of os) →
    IsStrictlySortedBy path_cmp (keys_of ns) → Ascend (paired os ns)
unfolding IsStrictlySortedBy
ascend-paired [] ns b s = ascend-new ns s
ascend-paired (o ∷ os) ns b s = ascend-into o os b.0 (λ ms c. ascend-paired os ms b.1 c) ns s

-- the entry at the path in front of others, if there is one
abbrev pub entry_cons : PathValue → Option Found → ListingValue → ListingValue
entry_cons path None es = es
entry_cons path (Some f) es = (path, f) ∷ es

-- the entries on one side of pairs
abbrev pub side_of : (PairValue → Option Found) → List PairValue → ListingValue
side_of side [] = []
side_of side (p ∷ ps) = entry_cons p.path (side p) (side_of side ps)

-- the old entries of pairs
abbrev pub olds_of : List PairValue → ListingValue
olds_of = side_of (λ p. p.before)

-- the new entries of pairs
abbrev pub news_of : List PairValue → ListingValue
news_of = side_of (λ p. p.after)

-- new entries alone have no old ones
olds_of-new : (ns : ListingValue) → olds_of (map only_new ns) ≡ []
olds_of-new [] = refl
olds_of-new (n ∷ ns) = olds_of-new ns

-- .. with one old entry
olds_of-into : (o : PathValue × Found) (os : ListingValue) →
    ((ns : ListingValue) → olds_of (paired os ns) ≡ os) → (ns : ListingValue) →
    olds_of (paired_into o (paired os) ns) ≡ o ∷ os
olds_of-into o os rest [] = ap (λ r. o ∷ r) (rest [])
olds_of-into o os rest (n ∷ ns) = by (path_cmp o.0 n.0) (olds_of-into o os rest ns)
  where
    by : (r : Ordering) → olds_of (paired_into o (paired os) ns) ≡ o ∷ os →
        olds_of (match_ordering r (only_old o ∷ paired os (n ∷ ns)) (both o n ∷ paired os ns)
        (only_new n ∷ paired_into o (paired os) ns)) ≡ o ∷ os
    by Less more = ap (λ r. o ∷ r) (rest (n ∷ ns))
    by Equal more = ap (λ r. o ∷ r) (rest ns)
    by Greater more = more

-- the old side is the old listing
pub olds_of-paired : (os ns : ListingValue) → olds_of (paired os ns) ≡ os
olds_of-paired [] ns = olds_of-new ns
olds_of-paired (o ∷ os) ns = olds_of-into o os (λ ms. olds_of-paired os ms) ns

-- new entries alone are the new side
news_of-new : (ns : ListingValue) → news_of (map only_new ns) ≡ ns
news_of-new [] = refl
news_of-new (n ∷ ns) = ap (λ r. n ∷ r) (news_of-new ns)

-- .. with one old entry
news_of-into : (o : PathValue × Found) (os : ListingValue) →
    ((ns : ListingValue) → news_of (paired os ns) ≡ ns) → (ns : ListingValue) →
    news_of (paired_into o (paired os) ns) ≡ ns
news_of-into o os rest [] = rest []
news_of-into o os rest (n ∷ ns) = by (path_cmp o.0 n.0) refl (news_of-into o os rest ns)
  where
    by : (r : Ordering) → path_cmp o.0 n.0 ≡ r → news_of (paired_into o (paired os) ns) ≡ ns →
        news_of (match_ordering r (only_old o ∷ paired os (n ∷ ns)) (both o n ∷ paired os ns)
        (only_new n ∷ paired_into o (paired os) ns)) ≡ n ∷ ns
    by Less q more = rest (n ∷ ns)
    by Equal q more = ap (λ x. (x, n.1) ∷ news_of (paired os ns)) (same_path o.0 n.0 q)
        ∙ ap (λ r. n ∷ r) (rest ns)
    by Greater q more = ap (λ r. n ∷ r) more

-- the new side is the new listing
pub news_of-paired : (os ns : ListingValue) → news_of (paired os ns) ≡ ns
news_of-paired [] ns = news_of-new ns
news_of-paired (o ∷ os) ns = news_of-into o os (λ ms. news_of-paired os ms) ns

module _ (side : PairValue → Option Found) where
  -- the entries of a side stay above x
  pub above-side : (x : PathValue) (ps : List PairValue) → IsAbove x ps → AreAbove x (keys_of (side_of side ps))
  above-side x [] a = tt
  above-side x (p ∷ ps) a = by (side p) (above-side x ps a.1)
    where
      by : (o : Option Found) → AreAbove x (keys_of (side_of side ps)) →
          AreAbove x (keys_of (entry_cons p.path o (side_of side ps)))
      by None more = more
      by (Some f) more = (a.0, more)

-- where all paths are above x, nothing stands at x
pub entry_at-above : (x : PathValue) (es : ListingValue) → AreAbove x (keys_of es) → entry_at es x ≡ None
entry_at-above x [] a = refl
entry_at-above x (e ∷ es) a = rw a.0 (entry_at-above x es a.1)

-- in front of a path nothing counts that stands at a lesser one
entry_at-behind : (x y : PathValue) (o : Option Found) (es : ListingValue) → path_cmp x y ≡ Less →
    entry_at (entry_cons x o es) y ≡ entry_at es y
entry_at-behind x y None es q = refl
entry_at-behind x y (Some f) es q = rw (turned_less x y q) refl

-- at the path of the first entry that entry stands
entry_at-first : (x : PathValue) (o : Option Found) (es : ListingValue) → AreAbove x (keys_of es) →
    entry_at (entry_cons x o es) x ≡ o
entry_at-first x None es a = entry_at-above x es a
entry_at-first x (Some f) es a = rw (at_itself x) refl

module _ (side : PairValue → Option Found) where
  -- what stands at the paths of the pairs is their side
  pub entry_at-side : (ps : List PairValue) → Ascend ps →
      AllByRecursion (λ p. entry_at (side_of side ps) p.path ≡ side p) ps
  entry_at-side [] s = tt
  entry_at-side (p ∷ ps) s = (
    entry_at-first p.path (side p) (side_of side ps) (above-side side p.path ps s.0),
    later ps s.0 (entry_at-side ps s.1),
  )
    where
      later : (qs : List PairValue) → IsAbove p.path qs →
          AllByRecursion (λ q. entry_at (side_of side ps) q.path ≡ side q) qs →
          AllByRecursion (λ q. entry_at (side_of side (p ∷ ps)) q.path ≡ side q) qs
      later [] a h = tt
      later (q ∷ qs) a h = (
        entry_at-behind p.path q.path (side p) (side_of side ps) a.0
            ∙ h.0,
        later qs a.1 h.1,
      )
