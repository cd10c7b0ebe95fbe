-- Paths whose nearest folders are all there have all their folders. The calls that make listings cite these.
use Rattle.std.proofs.Common.{◌≡◌, ℕ, zero, suc, ◌+◌, ◌-◌, ◌≤◌, arith, Bool, true, false, ◌&&◌, ◌||◌, List, [], ◌∷◌, ◌++◌, take, length, length-append, refl, ap, sym, ◌∙◌, Some, true≢false}
use Rattle.std.specs.List.{list_all}
use Rattle.std.specs.List.Sorted.{IsStrictlySortedBy}
use Rattle.std.specs.Map.{keys_of}
use Rattle.std.specs.BTreeMap.{insert_entry, is_at}
use Rattle.notify_paths.specs.Path.{PathValue, PartValue, path_cmp}
use Rattle.notify_paths.specs.PathMoves.{parent_of}
use Rattle.notify_paths.specs.PathLaws.{path_eq_decides, path_matches_eq}
use Rattle.debounce_model.specs.Play.{Paths, has_path}
use Rattle.debounce_model.specs.Honest.{has_folders, folders_of}
use Rattle.poll_listing.specs.declared.entry.EntryKind.{EntryKind}
use Rattle.poll_listing.specs.Listing.{ListingValue, entry_at, is_nonempty, is_listing, last_or, put_all, untimed, IsListing}
use Rattle.poll_listing.specs.Parents.{has_this, has_parent, have_parents}
use Rattle.poll_listing.proofs.HonestLemmas.{and_both, each-there}
use Rattle.poll_listing.proofs.ListingLemmas.{entry_at-insert, folders_of-push, all-push, all-passes}

-- a path with two parts or more is its folder with one part after it
split_last : (x y : PartValue) (r : PathValue) → (z : PartValue) × ((f : PathValue) × (y ∷ r ≡ f ++ z ∷ []))
split_last x y [] = (y, ([], refl))
split_last x y (w ∷ r) = let s = split_last y w r in (s.0, (y ∷ s.1.0, ap (λ t. y ∷ t) s.1.1))

take_whole : (f : PathValue) (z : PartValue) → take (length f) (f ++ z ∷ []) ≡ f
take_whole [] z = refl
take_whole (x ∷ f) z = ap (λ t. x ∷ t) (take_whole f z)

-- the nearest folder above a path with one more part is the path
parent-push : (x : PartValue) (f : PathValue) (z : PartValue) → parent_of (x ∷ (f ++ z ∷ [])) ≡ Some (x ∷ f)
parent-push x f z =
    let long : length (f ++ z ∷ []) ≡ length f + 1 = length-append f (z ∷ []) in
    let count : length (x ∷ (f ++ z ∷ [])) - 1 ≡ suc (length f) = omega (arith, long) in
    rw count (ap (λ t. Some (x ∷ t)) (take_whole f z))

-- a folder with its folders is there
module _ (ks : Paths) (each : (q : PathValue) → has_path ks q ≡ true → has_parent ks q ≡ true) where
  -- a path of at most so many parts that is there has its folders
  all_folders : (n : ℕ) (q : PathValue) → length q ≤ n → has_path ks q ≡ true → has_folders ks q ≡ true
  all_folders n [] l h = refl
  all_folders n (x ∷ []) l h = refl
  all_folders zero (x ∷ y ∷ r) l h = absurd (omega (arith, l))
  all_folders (suc n) (x ∷ y ∷ r) l h =
      let s = split_last x y r in
      let whole : y ∷ r ≡ s.1.0 ++ s.0 ∷ [] = s.1.1 in
      let parent : has_path ks (x ∷ s.1.0) ≡ true =
      ap (has_this ks) (sym (ap (λ t. parent_of (x ∷ t)) whole ∙ parent-push x s.1.0 s.0))
      ∙ each (x ∷ y ∷ r) h in
      let long : length (y ∷ r) ≡ length s.1.0 + 1 = ap length whole ∙ length-append s.1.0 (s.0 ∷ []) in
      let above : has_folders ks (x ∷ s.1.0) ≡ true =
      all_folders n (x ∷ s.1.0) (omega (arith, l, long)) parent in
      ap (λ t. has_folders ks (x ∷ t)) whole
      ∙ (ap (list_all (has_path ks)) (folders_of-push x s.1.0 s.0)
      ∙ all-push (has_path ks) (folders_of (x ∷ s.1.0)) (x ∷ s.1.0) above parent)

-- a test of all paths that are there is one of each
pub each_there : (t : PathValue → Bool) (ks : Paths) → list_all t ks ≡ true → (q : PathValue) →
    has_path ks q ≡ true → t q ≡ true
each_there t [] h q k = absurd (true≢false (sym k))
each_there t (p ∷ ks) h q k =
    by (is_at (path_cmp q) p) refl k (each_there t ks (and_both (t p) (list_all t ks) h).1 q)
  where
    two : (t p ≡ true) × (list_all t ks ≡ true)
    two = and_both (t p) (list_all t ks) h

    by : (b : Bool) → is_at (path_cmp q) p ≡ b → (b || has_path ks q) ≡ true →
        (has_path ks q ≡ true → t q ≡ true) → t q ≡ true
    by true e k more = let same : q ≡ p = (path_eq_decides q p).0 (path_matches_eq q p ∙ e) in ap t same ∙ two.0
    by false e k more = more k

-- a path whose folders are there has its nearest one
folders_parent : (ks : Paths) (q : PathValue) → has_folders ks q ≡ true → has_parent ks q ≡ true
folders_parent ks [] h = refl
folders_parent ks (x ∷ []) h = refl
folders_parent ks (x ∷ y ∷ r) h =
    let s = split_last x y r in
    let whole : y ∷ r ≡ s.1.0 ++ s.0 ∷ [] = s.1.1 in
    let all : list_all (has_path ks) (folders_of (x ∷ s.1.0) ++ (x ∷ s.1.0) ∷ []) ≡ true =
    ap (list_all (has_path ks)) (sym (folders_of-push x s.1.0 s.0))
    ∙ (ap (λ t. has_folders ks (x ∷ t)) (sym whole) ∙ h) in
    ap (has_this ks) (ap (λ t. parent_of (x ∷ t)) whole ∙ parent-push x s.1.0 s.0)
    ∙ last_passes (has_path ks) (folders_of (x ∷ s.1.0)) (x ∷ s.1.0) all
  where
    last_passes : (t : PathValue → Bool) (qs : List PathValue) (q : PathValue) → list_all t (qs ++ q ∷ [])
        ≡ true → t q ≡ true
    last_passes t [] q h = (and_both (t q) true h).0
    last_passes t (p ∷ qs) q h = last_passes t qs q (and_both (t p) (list_all t (qs ++ q ∷ [])) h).1

-- one test of all paths gives another
pub all_from : (s t : PathValue → Bool) → ((q : PathValue) → s q ≡ true → t q ≡ true) → (ks : Paths) →
    list_all s ks ≡ true → list_all t ks ≡ true
all_from s t f [] h = refl
all_from s t f (k ∷ ks) h = let two = and_both (s k) (list_all s ks) h in
    rw (f k two.0) (all_from s t f ks two.1)

-- both of two tests of all paths
all_both : (s t : PathValue → Bool) (ks : Paths) → list_all s ks ≡ true → list_all t ks ≡ true →
    list_all (λ q. s q && t q) ks ≡ true
all_both s t [] h k = refl
all_both s t (p ∷ ks) h k =
    let a = and_both (s p) (list_all s ks) h in
    let b = and_both (t p) (list_all t ks) k in
    rw (a.0, b.0) (all_both s t ks a.1 b.1)

-- the first of two tests of all paths
all_first : (s t : PathValue → Bool) (ks : Paths) → list_all (λ q. s q && t q) ks ≡ true → list_all s ks ≡ true
all_first s t = all_from (λ q. s q && t q) s (λ q h. (and_both (s q) (t q) h).0)

-- .. and the second
all_second : (s t : PathValue → Bool) (ks : Paths) → list_all (λ q. s q && t q) ks ≡ true → list_all t ks ≡ true
all_second s t = all_from (λ q. s q && t q) t (λ q h. (and_both (s q) (t q) h).1)

-- among all paths of some entries each has its nearest folder where each has all its folders
pub parents_tell : (es : ListingValue) → have_parents (keys_of es) (keys_of es) ≡ is_listing es
parents_tell es = by (have_parents ks ks) (is_listing es) refl refl
  where
    ks : Paths
    ks = keys_of es

    there : list_all (has_path ks) ks ≡ true
    there = all-passes (has_path ks) es (each-there es)

    down : have_parents ks ks ≡ true → is_listing es ≡ true
    down h =
        let parents : list_all (has_parent ks) ks ≡ true = all_second is_nonempty (has_parent ks) ks h in
        let folders = all_folders ks (each_there (has_parent ks) ks parents) in
        all_both is_nonempty (has_folders ks) ks (all_first is_nonempty (has_parent ks) ks h)
        (all_from (has_path ks) (has_folders ks) (λ q. folders (length q) q (omega arith)) ks there)

    up : is_listing es ≡ true → have_parents ks ks ≡ true
    up h =
        all_both is_nonempty (has_parent ks) ks (all_first is_nonempty (has_folders ks) ks h)
        (all_from (has_folders ks) (has_parent ks) (folders_parent ks) ks
        (all_second is_nonempty (has_folders ks) ks h))

    by : (a b : Bool) → have_parents ks ks ≡ a → is_listing es ≡ b → a ≡ b
    by true true h k = refl
    by false false h k = refl
    by true false h k = sym (down h) ∙ k
    by false true h k = sym h ∙ up k

-- entries that ascend and pass the test are a listing
pub made_of : (es : ListingValue) → IsStrictlySortedBy path_cmp (keys_of es) → is_listing es ≡ true →
    IsListing es
made_of es s h =
    record {
      ordered = s;
      nonempty = all_first is_nonempty (has_folders (keys_of es)) (keys_of es) h;
      closed =
          all_second is_nonempty (has_folders (keys_of es)) (keys_of es) h;
    }

-- what is found in entries that are put in one after the other
pub found_last : (es : ListingValue) (entries : List (PathValue × EntryKind × ℕ)) (path : PathValue) →
    entry_at (put_all es entries) path ≡ last_or (entry_at es path) entries path
found_last es [] path = refl
found_last es (x ∷ xs) path =
    found_last (insert_entry path_cmp es x.0 (untimed x.1 x.2)) xs path
    ∙ ap (λ o. last_or o xs path) (entry_at-insert es x.0 path (untimed x.1 x.2) (is_at (path_cmp path) x.0) refl)
