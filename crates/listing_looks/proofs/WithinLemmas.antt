-- What lies at a path or below it is one run of some entries, from the path on.
use Rattle.std.proofs.Common.{◌≡◌, true, false, [], ◌∷◌, cond, refl, ap, sym, subst, ◌∙◌, Option, Some, None}
use Rattle.std.specs.declared.cmp.Ordering.{Ordering}
use Rattle.std.specs.declared.cmp.Ordering.TheVariants.{Less, Equal, Greater}
use Rattle.std.specs.declared.ops.Bound.TheVariants.{Included, Unbounded}
use Rattle.std.specs.Ordering.{is_lt}
use Rattle.std.specs.BTreeMap.Range.{entries_between, range_contains}
use Rattle.std.specs.List.Sorted.{IsStrictlySortedBy}
use Rattle.std.specs.Map.{keys_of}
use Rattle.std.specs.Map.Iter.{TakesFirst}
use Rattle.std.proofs.lemmas.Map.Keys.{sorted_head, sorted_tail}
use Rattle.notify_paths.specs.Path.{PathValue, is_prefix, path_cmp}
use Rattle.notify_paths.specs.PathLaws.{path_cmp_total}
use Rattle.notify_paths.proofs.Prefixes.{run_ends}
use Rattle.debounce_model.proofs.Entries.{sorted-filter}
use Rattle.poll_listing.specs.declared.entry.Found.{Found}
use Rattle.poll_listing.specs.Listing.{ListingValue}
use Rattle.poll_listing.proofs.PairLemmas.{AreAbove, turned}
use Rattle.poll_listing.proofs.PrefixLemmas.{no_prefix_behind}
use Rattle.poll_listing.proofs.UpdateLemmas.{Ascends}
use Rattle.listing_looks.specs.Looks.{within}

-- the entries from the path on
abbrev pub from_path : PathValue → ListingValue → ListingValue
from_path top es = entries_between path_cmp (Included top) Unbounded es

-- they are in order
pub from_path-sorted : (top : PathValue) (es : ListingValue) → Ascends es → Ascends (from_path top es)
from_path-sorted top es s =
    sorted-filter path_cmp_total (λ e. range_contains path_cmp (Included top) Unbounded e.0) es s

-- what lies at the path or below it is among them
pub within-from : (top : PathValue) (es : ListingValue) → within (from_path top es) top ≡ within es top
within-from top [] = refl
within-from top (e ∷ es) = by (path_cmp top e.0) refl (within-from top es)
  where
    kept : within (from_path top es) top ≡ within es top → within (e ∷ from_path top es) top ≡ within (e ∷ es) top
    kept more = ap (λ r. cond (is_prefix top e.0) (e ∷ r) r) more

    by : (o : Ordering) → path_cmp top e.0 ≡ o → within (from_path top es) top ≡ within es top →
        within (from_path top (e ∷ es)) top ≡ within (e ∷ es) top
    by Less q more = rw q (kept more)
    by Equal q more = rw q (kept more)
    by Greater q more = rw q (more ∙ out (no_prefix_behind e.0 top (turned top e.0 q)))
      where
        out : is_prefix top e.0 ≡ false → within es top ≡ within (e ∷ es) top
        out h = rw h refl

-- behind an entry that stands behind the path and not below it nothing lies below the path
pub none_within : (top : PathValue) (e : PathValue × Found) (es : ListingValue) → Ascends (e ∷ es) →
    is_lt (path_cmp top e.0) ≡ true → is_prefix top e.0 ≡ false → within (e ∷ es) top ≡ []
none_within top e es s q h = rw h (by es (sorted_head path_cmp e.0 (keys_of es) s))
  where
    behind : (o : Ordering) → is_lt o ≡ true → o ≡ Greater → ⊥
    behind Less t g = cc
    behind Equal t g = cc
    behind Greater t g = cc

    by : (xs : ListingValue) → AreAbove e.0 (keys_of xs) → within xs top ≡ []
    by [] a = refl
    by (x ∷ xs) a = rw (run_ends top e.0 x.0 (behind (path_cmp top e.0) q) h a.0) (by xs a.1)

-- what is left behind the first entry is in order
pub taken-sorted : {X : Type 0} → (shows : X → PathValue × Found) (old new : ListingValue) (first : Option X) →
    Ascends old → TakesFirst shows old first new → Ascends new
unfolding IsStrictlySortedBy
taken-sorted shows old new None s h = subst Ascends (sym h.1) tt
taken-sorted shows old new (Some x) s h = sorted_tail path_cmp (shows x).0 (keys_of new) (subst Ascends h s)

-- an entry elsewhere is none of what lies at the path or below it
pub within-skip : (top : PathValue) (e : PathValue × Found) (es : ListingValue) → is_prefix top e.0 ≡ false →
    within (e ∷ es) top ≡ within es top
within-skip top e es h = rw h refl
