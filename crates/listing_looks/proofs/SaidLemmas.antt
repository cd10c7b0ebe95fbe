-- What is said stands at each path, and what a call that says something makes of it.
use Rattle.std.proofs.Common.{◌≡◌, suc, ◌+◌, ◌-◌, arith, take, length-append, Bool, true, false, not, ◌&&◌, List, [], ◌∷◌, ◌++◌, cond, filter, length, refl, ap, sym, subst, ◌∙◌, Option, Some, None, true≢false}
use Rattle.std.specs.Prelude.{is_some, if◌then◌else◌}
use Rattle.std.specs.BTreeMap.{is_at, insert_entry}
use Rattle.std.specs.List.{list_all}
use Rattle.std.specs.Map.{keys_of}
use Rattle.std.specs.Option.{option_or}
use Rattle.std.proofs.lemmas.Map.Entries.{lookup-filter-keys}
use Rattle.notify_paths.specs.Path.{PathValue, PartValue, is_below, is_prefix, path_cmp, path_eq}
use Rattle.notify_paths.specs.PathLaws.{path_cmp_total, path_matches_eq}
use Rattle.notify_paths.specs.PathMoves.{parent_of}
use Rattle.notify_paths.proofs.Prefixes.{same_path}
use Rattle.debounce_model.specs.Honest.{folders_of, has_folders}
use Rattle.debounce_model.specs.Play.{has_path}
use Rattle.debounce_model.proofs.Entries.{same_entries, sorted-filter, sorted-insert_entry}
use Rattle.poll_listing.specs.declared.entry.Found.{Found}
use Rattle.poll_listing.specs.Changes.{is_of_kind}
use Rattle.poll_listing.specs.Listing.{IsListing, ListingValue, entry_at, has_entry, is_nonempty}
use Rattle.poll_listing.specs.Near.{outside}
use Rattle.poll_listing.specs.declared.entry.EntryKind.TheVariants.{File}
use Rattle.poll_listing.proofs.BehindLemmas.{at-same}
use Rattle.poll_listing.proofs.HonestLemmas.{and_both}
use Rattle.poll_listing.proofs.ListingLemmas.{all-push, entry_at-insert, folders_of-push, is_listing-insert}
use Rattle.poll_listing.proofs.MergeLemmas.{merged, sorted_over}
use Rattle.poll_listing.proofs.ParentLemmas.{each_there}
use Rattle.poll_listing.proofs.PrefixLemmas.{not_below_itself}
use Rattle.poll_listing.proofs.UpdateLemmas.{Ascends}
use Rattle.poll_listing.proofs.WalkLemmas.{has_entry-some}
use Rattle.listing_looks.specs.Looks.{has_place, holds, is_lost, is_lost_after, outside_each, said_of}

-- what stands outside a path
pub outside-finds : (es : ListingValue) (p q : PathValue) →
    entry_at (outside es p) q ≡ (if is_prefix p q then None else entry_at es q)
outside-finds es p q =
    lookup-filter-keys (is_at (path_cmp q)) (λ k. not (is_prefix p k)) (not (is_prefix p q))
    (λ k h. ap (λ z. not (is_prefix p z)) (sym (at-same q k h))) es
    ∙ by (is_prefix p q)
  where
    by : (b : Bool) → cond (not b) (entry_at es q) None ≡ (if b then None else entry_at es q)
    by true = refl
    by false = refl

-- .. and what isn't lost
outside_each-finds : (es : ListingValue) (tops : List (PathValue × Bool)) (q : PathValue) →
    entry_at (outside_each es tops) q ≡ (if is_lost tops q then None else entry_at es q)
outside_each-finds es tops q =
    lookup-filter-keys (is_at (path_cmp q)) (λ k. not (is_lost tops k)) (not (is_lost tops q))
    (λ k h. ap (λ z. not (is_lost tops z)) (sym (at-same q k h))) es
    ∙ by (is_lost tops q)
  where
    by : (b : Bool) → cond (not b) (entry_at es q) None ≡ (if b then None else entry_at es q)
    by true = refl
    by false = refl

-- what is said at a path, if this was found there, or nothing was
abbrev pub said_at : Option Found → Bool → Option Found → Option Found
said_at found lost known = option_or found (if lost then None else known)

-- what was found stands there, or else nothing where that was said, or else what is known
pub said-finds : (known : ListingValue) (lost : List (PathValue × Bool)) (found : ListingValue) → Ascends found →
    (q : PathValue) →
    entry_at (said_of known lost found) q ≡ said_at (entry_at found q) (is_lost lost q) (entry_at known q)
said-finds known lost found s q =
    merged (outside_each known lost) found s q ∙ ap (option_or (entry_at found q)) (outside_each-finds known lost q)

-- what is said is in order
pub said-sorted : (known : ListingValue) (lost : List (PathValue × Bool)) (found : ListingValue) → Ascends known →
    Ascends (said_of known lost found)
said-sorted known lost found s =
    sorted_over (outside_each known lost) found (sorted-filter path_cmp_total (λ e. not (is_lost lost e.0)) known s)

-- one path more that is lost, or isn't
pub lost-push : (before : Bool) (tops : List (PathValue × Bool)) (p : PathValue) (lost : Bool) (q : PathValue) →
    is_lost_after before (tops ++ (p, lost) ∷ []) q ≡ (if is_prefix p q then lost else is_lost_after before tops q)
lost-push before [] p lost q = refl
lost-push before (t ∷ tops) p lost q = lost-push (if is_prefix t.0 q then t.1 else before) tops p lost q

-- what was found outside a path
abbrev pub found_outside : ListingValue → PathValue → ListingValue
found_outside found p = filter (λ e. not (is_prefix p e.0)) found

-- .. is in order
pub outside-sorted : (es : ListingValue) (p : PathValue) → Ascends es → Ascends (found_outside es p)
outside-sorted es p s = sorted-filter path_cmp_total (λ e. not (is_prefix p e.0)) es s

-- where nothing stands at and below the path, all else is said as before
pub lost_said : (known : ListingValue) (lost : List (PathValue × Bool)) (found : ListingValue) (p : PathValue) →
    Ascends known → Ascends found →
    said_of known (lost ++ (p, true) ∷ []) (found_outside found p) ≡ outside (said_of known lost found) p
lost_said known lost found p k s =
    same_entries path_cmp_total same_path (said_of known (lost ++ (p, true) ∷ []) (found_outside found p))
    (outside (said_of known lost found) p)
    (said-sorted known (lost ++ (p, true) ∷ []) (found_outside found p) k)
    (sorted-filter path_cmp_total (λ e. not (is_prefix p e.0)) (said_of known lost found)
    (said-sorted known lost found k))
    (λ q. said-finds known (lost ++ (p, true) ∷ []) (found_outside found p) (outside-sorted found p s) q
    ∙ (ap (λ o. said_at o (is_lost (lost ++ (p, true) ∷ []) q) (entry_at known q)) (outside-finds found p q)
    ∙ (ap (λ b. said_at (if is_prefix p q then None else entry_at found q) b (entry_at known q))
    (lost-push false lost p true q)
    ∙ (by (is_prefix p q) (is_lost lost q) (entry_at found q) (entry_at known q)
    ∙ (ap (λ o. if is_prefix p q then None else o) (sym (said-finds known lost found s q))
    ∙ sym (outside-finds (said_of known lost found) p q))))))
  where
    by : (b l : Bool) (f o : Option Found) →
        said_at (if b then None else f) (if b then true else l) o ≡ (if b then None else said_at f l o)
    by true l f o = refl
    by false l f o = refl

-- what was found stands at its path, and all else is said as before
pub found_said : (known : ListingValue) (lost : List (PathValue × Bool)) (found : ListingValue) (p : PathValue)
    (f : Found) → Ascends known → Ascends found →
    said_of known lost (insert_entry path_cmp found p f) ≡ insert_entry path_cmp (said_of known lost found) p f
found_said known lost found p f k s =
    same_entries path_cmp_total same_path (said_of known lost new)
    (insert_entry path_cmp (said_of known lost found) p f)
    (said-sorted known lost new k)
    (sorted-insert_entry path_cmp_total (said_of known lost found) p f (said-sorted known lost found k))
    (λ q. said-finds known lost new (sorted-insert_entry path_cmp_total found p f s) q
    ∙ (ap (λ o. said_at o (is_lost lost q) (entry_at known q)) (entry_at-insert found p q f (is_at (path_cmp q) p) refl)
    ∙ (by (is_at (path_cmp q) p) (is_lost lost q) (entry_at found q) (entry_at known q)
    ∙ (ap (λ o. if is_at (path_cmp q) p then Some f else o) (sym (said-finds known lost found s q))
    ∙ sym (entry_at-insert (said_of known lost found) p q f (is_at (path_cmp q) p) refl)))))
  where
    new : ListingValue
    new = insert_entry path_cmp found p f

    by : (b l : Bool) (x o : Option Found) →
        said_at (if b then Some f else x) l o ≡ (if b then Some f else said_at x l o)
    by true l x o = refl
    by false l x o = refl

-- what was found, without what lies strictly below a path
abbrev pub not_below : ListingValue → PathValue → ListingValue
not_below found p = filter (λ e. not (is_below e.0 p)) found

-- where something was put in, and all below it taken out, it is as if all at and below it had been taken out first
pub put_anew : (found : ListingValue) (p : PathValue) (f : Found) → Ascends found →
    not_below (insert_entry path_cmp found p f) p ≡ insert_entry path_cmp (found_outside found p) p f
put_anew found p f s =
    same_entries path_cmp_total same_path (not_below new p) (insert_entry path_cmp (found_outside found p) p f)
    (sorted-filter path_cmp_total (λ e. not (is_below e.0 p)) new (sorted-insert_entry path_cmp_total found p f s))
    (sorted-insert_entry path_cmp_total (found_outside found p) p f (outside-sorted found p s))
    (λ q. lookup-filter-keys (is_at (path_cmp q)) (λ k. not (is_below k p)) (not (is_below q p))
    (λ k h. ap (λ z. not (is_below z p)) (sym (at-same q k h))) new
    ∙ (by q (is_at (path_cmp q) p) refl
    ∙ sym (entry_at-insert (found_outside found p) p q f (is_at (path_cmp q) p) refl)))
  where
    new : ListingValue
    new = insert_entry path_cmp found p f

    apart : (b e : Bool) (o : Option Found) → e ≡ false → cond (not (b && not e)) o None ≡ (if b then None else o)
    apart true true o h = absurd (true≢false h)
    apart true false o h = refl
    apart false e o h = refl

    by : (q : PathValue) (b : Bool) → is_at (path_cmp q) p ≡ b →
        cond (not (is_below q p)) (entry_at new q) None
        ≡ (if b then Some f else entry_at (found_outside found p) q)
    by q true h = let same : q ≡ p = at-same q p h in
        rw (same, not_below_itself p)
        (entry_at-insert found p p f true (subst (λ z. is_at (path_cmp z) p ≡ true) same h))
    by q false h =
        ap (λ o. cond (not (is_below q p)) o None) (entry_at-insert found p q f false h)
        ∙ (apart (is_prefix p q) (path_eq q p) (entry_at found q) (path_matches_eq q p ∙ h)
        ∙ sym (outside-finds found p q))

-- once this was found, and what lay below it is gone, it stands there, and all else outside the path is said as before
pub found_anew_said : (known : ListingValue) (lost : List (PathValue × Bool)) (found : ListingValue) (p : PathValue)
    (f : Found) →
    Ascends known → Ascends found →
    said_of known (lost ++ (p, true) ∷ []) (not_below (insert_entry path_cmp found p f) p)
    ≡ insert_entry path_cmp (outside (said_of known lost found) p) p f
found_anew_said known lost found p f k s =
    ap (said_of known (lost ++ (p, true) ∷ [])) (put_anew found p f s)
    ∙ (found_said known (lost ++ (p, true) ∷ []) (found_outside found p) p f k (outside-sorted found p s)
    ∙ ap (λ es. insert_entry path_cmp es p f) (lost_said known lost found p k s))

-- the parts in front of the last one
front_of : (f : PathValue) (z : PartValue) → take (length f) (f ++ z ∷ []) ≡ f
front_of [] z = refl
front_of (x ∷ f) z = ap (λ t. x ∷ t) (front_of f z)

-- the nearest folder above a path with one more part is the path
parent_of-push : (x : PartValue) (f : PathValue) (z : PartValue) → parent_of (x ∷ (f ++ z ∷ [])) ≡ Some (x ∷ f)
parent_of-push x f z =
    let long : length (f ++ z ∷ []) ≡ length f + 1 = length-append f (z ∷ []) in
    let count : length (x ∷ (f ++ z ∷ [])) - 1 ≡ suc (length f) = omega (arith, long) in
    rw count (ap (λ t. Some (x ∷ t)) (front_of f z))

-- some parts are those in front of the last one, and it
split_last : (y : PartValue) (r : PathValue) → (z : PartValue) × ((f : PathValue) × (y ∷ r ≡ f ++ z ∷ []))
split_last y [] = (y, ([], refl))
split_last y (w ∷ r) = let s = split_last w r in (s.0, (y ∷ s.1.0, ap (λ t. y ∷ t) s.1.1))

-- a path that has a place in a listing has its folders there
pub place-folders : (es : ListingValue) (p : PathValue) → IsListing es → has_place es p ≡ true →
    has_folders (keys_of es) p ≡ true
place-folders es [] law h = refl
place-folders es (x ∷ []) law h = refl
place-folders es (x ∷ y ∷ r) law h =
    let s = split_last y r in
    let z = s.0 in
    let f = s.1.0 in
    let above : parent_of (x ∷ y ∷ r) ≡ Some (x ∷ f) = ap (λ t. parent_of (x ∷ t)) s.1.1 ∙ parent_of-push x f z in
    let there : has_entry es (x ∷ f) ≡ true =
    has_entry-some es (x ∷ f)
    ∙ (and_both (is_some (entry_at es (x ∷ f))) (not (is_of_kind File (entry_at es (x ∷ f))))
    (ap (holds es) (sym above) ∙ h)).0 in
    let folders : has_folders (keys_of es) (x ∷ f) ≡ true =
    each_there (has_folders (keys_of es)) (keys_of es) law.closed (x ∷ f) there in
    ap (λ t. has_folders (keys_of es) (x ∷ t)) s.1.1
    ∙ (ap (list_all (has_path (keys_of es))) (folders_of-push x f z)
    ∙ all-push (has_path (keys_of es)) (folders_of (x ∷ f)) (x ∷ f) folders there)

-- a path that has a place isn't empty
pub place-nonempty : (es : ListingValue) (p : PathValue) → has_place es p ≡ true → is_nonempty p ≡ true
place-nonempty es p h = (and_both (is_nonempty p) (holds es (parent_of p)) h).0

-- a listing with what was found at a place is one
pub found_listing : (es : ListingValue) (p : PathValue) (f : Found) → IsListing es → has_place es p ≡ true →
    IsListing (insert_entry path_cmp es p f)
found_listing es p f law h = is_listing-insert es p f law (place-nonempty es p h) (place-folders es p law h)
