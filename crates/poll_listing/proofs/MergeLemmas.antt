-- A listing whose entries are put over those of another. The calls that merge and copy listings cite these.
use Rattle.std.proofs.Common.{◌≡◌, Bool, true, false, [], ◌∷◌, refl, ap, sym, ◌∙◌, Some, None, true≢false}
use Rattle.std.specs.Prelude.{Option, is_some}
use Rattle.std.specs.Option.{option_or}
use Rattle.std.specs.BTreeMap.{is_at, insert_entry}
use Rattle.std.specs.List.{list_all}
use Rattle.std.specs.List.Sorted.{IsStrictlySortedBy}
use Rattle.std.specs.Map.{keys_of}
use Rattle.notify_paths.specs.Path.{PathValue, path_cmp}
use Rattle.notify_paths.specs.PathLaws.{path_cmp_total}
use Rattle.notify_paths.proofs.Prefixes.{same_path}
use Rattle.debounce_model.specs.Play.{has_path}
use Rattle.debounce_model.specs.Honest.{has_folders}
use Rattle.debounce_model.proofs.Entries.{same_entries, sorted-insert_entry}
use Rattle.poll_listing.specs.declared.entry.Found.{Found}
use Rattle.poll_listing.specs.Listing.{ListingValue, entry_at, has_entry, is_nonempty, IsListing}
use Rattle.poll_listing.specs.MergedListings.{IsMerged, put_over}
use Rattle.poll_listing.proofs.PairLemmas.{entry_at-above}
use Rattle.poll_listing.proofs.BehindLemmas.{at-same}
use Rattle.poll_listing.proofs.WalkLemmas.{has_entry-some}
use Rattle.poll_listing.proofs.HonestLemmas.{each-there}
use Rattle.poll_listing.proofs.ListingLemmas.{entry_at-insert, folders-grow, all-passes}
use Rattle.poll_listing.proofs.ParentLemmas.{each_there, all_from}

-- where entries are put over others, theirs are found first
pub merged : (under over : ListingValue) → IsStrictlySortedBy path_cmp (keys_of over) →
    IsMerged over under (put_over under over)
unfolding IsStrictlySortedBy
merged under [] s q = refl
merged under (e ∷ es) s q = merged (insert_entry path_cmp under e.0 e.1) es s.1 q
    ∙ by (is_at (path_cmp q) e.0) refl
  where
    by : (b : Bool) → is_at (path_cmp q) e.0 ≡ b →
        option_or (entry_at es q) (entry_at (insert_entry path_cmp under e.0 e.1) q)
        ≡ option_or (entry_at (e ∷ es) q) (entry_at under q)
    by true h =
        let none : entry_at es q ≡ None = ap (entry_at es) (at-same q e.0 h) ∙ entry_at-above e.0 es s.0 in
        rw (none, h) (entry_at-insert under e.0 q e.1 true h)
    by false h = rw h (ap (option_or (entry_at es q)) (entry_at-insert under e.0 q e.1 false h))

-- they ascend
pub sorted_over : (under over : ListingValue) → IsStrictlySortedBy path_cmp (keys_of under) →
    IsStrictlySortedBy path_cmp (keys_of (put_over under over))
sorted_over under [] s = s
sorted_over under (e ∷ es) s =
    sorted_over (insert_entry path_cmp under e.0 e.1) es (sorted-insert_entry path_cmp_total under e.0 e.1 s)

-- no entries ascend
none_sorted : IsStrictlySortedBy path_cmp []
unfolding IsStrictlySortedBy
none_sorted = tt

-- entries that are put over none are these entries
pub copied : (es : ListingValue) → IsStrictlySortedBy path_cmp (keys_of es) → put_over [] es ≡ es
copied es s = same_entries path_cmp_total same_path (put_over [] es) es (sorted_over [] es none_sorted)
    s (λ q. merged [] es s q ∙ or_none (entry_at es q))
  where
    or_none : (o : Option Found) → option_or o None ≡ o
    or_none None = refl
    or_none (Some x) = refl

-- what is there in one of two listings is there in both together
found_in : (under over : ListingValue) → IsStrictlySortedBy path_cmp (keys_of over) → (q : PathValue) →
    (has_entry over q ≡ true → has_entry (put_over under over) q ≡ true) × (has_entry under q ≡ true →
    has_entry (put_over under over) q ≡ true)
found_in under over s q = (
  λ h. new ∙ left (entry_at over q) (entry_at under q) (sym (has_entry-some over q) ∙ h),
  λ h. new ∙ right (entry_at over q) (entry_at under q) (sym (has_entry-some under q) ∙ h),
)
  where
    new : has_entry (put_over under over) q ≡ is_some (option_or (entry_at over q) (entry_at under q))
    new = has_entry-some (put_over under over) q ∙ ap is_some (merged under over s q)

    left : (a b : Option Found) → is_some a ≡ true → is_some (option_or a b) ≡ true
    left None b h = absurd (true≢false (sym h))
    left (Some x) b h = refl

    right : (a b : Option Found) → is_some b ≡ true → is_some (option_or a b) ≡ true
    right None b h = h
    right (Some x) b h = refl

-- what is there in both together passes a test that each path of each passes
found_passes : (t : PathValue → Bool) (under over : ListingValue) → IsStrictlySortedBy path_cmp (keys_of over) →
    ((q : PathValue) → has_entry over q ≡ true → t q ≡ true) →
    ((q : PathValue) → has_entry under q ≡ true → t q ≡ true) → list_all t (keys_of (put_over under over))
    ≡ true
found_passes t under over s first second =
    all_from (has_path (keys_of new)) t passes (keys_of new)
    (all-passes (has_path (keys_of new)) new (each-there new))
  where
    new : ListingValue
    new = put_over under over

    passes : (q : PathValue) → has_path (keys_of new) q ≡ true → t q ≡ true
    passes q h = by (entry_at over q) refl (sym (has_entry-some new q ∙ ap is_some (merged under over s q)) ∙ h)
      where
        by : (o : Option Found) → entry_at over q ≡ o → is_some (option_or (entry_at over q) (entry_at under q))
            ≡ true → t q ≡ true
        by (Some x) e k = first q (has_entry-some over q ∙ ap is_some e)
        by None e k =
            second q (has_entry-some under q ∙ (sym (ap (λ o. is_some (option_or o (entry_at under q))) e) ∙ k))

-- two listings together are one
pub merged_listing : (under over : ListingValue) → IsListing under → IsListing over →
    IsListing (put_over under over)
merged_listing under over u o = record {
  ordered = sorted_over under over u.ordered;
  nonempty = found_passes is_nonempty under over o.ordered (each_there is_nonempty (keys_of over) o.nonempty)
      (each_there is_nonempty (keys_of under) u.nonempty);
  closed =
      found_passes (has_folders (keys_of new)) under over o.ordered
      (λ q h. folders-grow over new (λ p. (found_in under over o.ordered p).0) q
      (each_there (has_folders (keys_of over)) (keys_of over) o.closed q h))
      (λ q h. folders-grow under new (λ p. (found_in under over o.ordered p).1) q
      (each_there (has_folders (keys_of under)) (keys_of under) u.closed q h));
}
  where
    new : ListingValue
    new = put_over under over
