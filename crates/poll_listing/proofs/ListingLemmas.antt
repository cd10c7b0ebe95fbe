-- Listings stay listings where an entry is put in whose folders are there.
use Rattle.std.proofs.Common.{◌≡◌, ℕ, zero, suc, ◌+◌, ◌<◌, ◌≤◌, length, take, arith, Bool, true, false, List, [], ◌∷◌, ◌++◌, map, refl, ap, sym, subst, ◌∙◌, Some, None, true≢false}
use Rattle.std.specs.Prelude.{is_some, if◌then◌else◌}
use Rattle.std.specs.List.{AllByRecursion, list_all}
use Rattle.std.specs.Map.{keys_of}
use Rattle.std.specs.BTreeMap.{is_at, insert_entry}
use Rattle.notify_paths.specs.Path.{PathValue, PartValue, NamePart, path_cmp}
use Rattle.notify_paths.specs.PathText.{is_proper_name}
use Rattle.notify_paths.specs.PathMoves.{child_of}
use Rattle.notify_paths.specs.PathLaws.{path_cmp_total, path_eq_decides, path_matches_eq}
use Rattle.notify_paths.proofs.Prefixes.{same_path}
use Rattle.debounce_model.specs.Play.{has_path}
use Rattle.debounce_model.specs.Honest.{has_folders, folders_of}
use Rattle.debounce_model.proofs.Entries.{sorted-insert_entry, each-insert_entry, lookup-insert_same, lookup-insert_other}
use Rattle.poll_listing.specs.declared.entry.Found.{Found}
use Rattle.poll_listing.specs.Listing.{ListingValue, entry_at, has_entry, is_nonempty, IsListing}
use Rattle.poll_listing.proofs.WalkLemmas.{has_entry-some}
use Rattle.poll_listing.proofs.HonestLemmas.{and_both, each-passes}

-- an entry is found where it was put in, and what was there elsewhere
pub entry_at-insert : (es : ListingValue) (k q : PathValue) (f : Found) (b : Bool) → is_at (path_cmp q) k ≡ b →
    entry_at (insert_entry path_cmp es k f) q ≡ (if b then Some f else entry_at es q)
entry_at-insert es k q f true h = let same : q ≡ k = (path_eq_decides q k).0 (path_matches_eq q k ∙ h) in
    rw same (lookup-insert_same path_cmp_total es k f)
entry_at-insert es k q f false h = lookup-insert_other path_cmp_total es k q f h

-- nothing that was there is lost
pub insert-grows : (es : ListingValue) (k : PathValue) (f : Found) (q : PathValue) → has_entry es q ≡ true →
    has_entry (insert_entry path_cmp es k f) q ≡ true
insert-grows es k f q h = has_entry-some (insert_entry path_cmp es k f) q ∙ by (is_at (path_cmp q) k) refl
  where
    by : (b : Bool) → is_at (path_cmp q) k ≡ b → is_some (entry_at (insert_entry path_cmp es k f) q) ≡ true
    by true e = ap is_some (entry_at-insert es k q f true e)
    by false e = ap is_some (entry_at-insert es k q f false e) ∙ (sym (has_entry-some es q) ∙ h)

-- folders that are there stay there
pub folders-grow : (es fs : ListingValue) → ((q : PathValue) → has_entry es q ≡ true → has_entry fs q ≡ true) →
    (path : PathValue) → has_folders (keys_of es) path ≡ true → has_folders (keys_of fs) path ≡ true
folders-grow es fs grows path h = all (folders_of path) h
  where
    all : (qs : List PathValue) → list_all (has_path (keys_of es)) qs ≡ true →
        list_all (has_path (keys_of fs)) qs ≡ true
    all [] h = refl
    all (q ∷ qs) h = let b = and_both (has_path (keys_of es) q) (list_all (has_path (keys_of es)) qs) h in
        rw (grows q b.0) (all qs b.1)

-- a test that each path passes
pub all-passes : (t : PathValue → Bool) (es : ListingValue) → AllByRecursion (λ e. t e.0 ≡ true) es →
    list_all t (keys_of es) ≡ true
all-passes t [] a = refl
all-passes t (e ∷ es) a = rw a.0 (all-passes t es a.1)

-- .. maps over entries
each-map : (P Q : PathValue × Found → Type 0) → ((e : PathValue × Found) → P e → Q e) → (es : ListingValue) →
    AllByRecursion P es → AllByRecursion Q es
each-map P Q f [] a = tt
each-map P Q f (e ∷ es) a = (f e a.0, each-map P Q f es a.1)

-- the listing with an entry whose folders are there is one
pub is_listing-insert : (es : ListingValue) (k : PathValue) (f : Found) → IsListing es → is_nonempty k ≡ true →
    has_folders (keys_of es) k ≡ true → IsListing (insert_entry path_cmp es k f)
is_listing-insert es k f l n h =
    let new = insert_entry path_cmp es k f in
    let grows = insert-grows es k f in
    let there = folders-grow es new grows in
    record {
      ordered = sorted-insert_entry path_cmp_total es k f l.ordered;
      nonempty = all-passes is_nonempty new (each-insert_entry path_cmp_total (λ e. is_nonempty e.0 ≡ true) es k
          f (each-passes is_nonempty es l.nonempty)
          n (λ y q. subst (λ x. is_nonempty x ≡ true) (same_path k y q) n));
      closed =
          all-passes (has_folders (keys_of new)) new
          (each-insert_entry path_cmp_total (λ e. has_folders (keys_of new) e.0 ≡ true) es k f
          (each-map (λ e. has_folders (keys_of es) e.0 ≡ true) (λ e. has_folders (keys_of new) e.0
          ≡ true) (λ e. there e.0) es (each-passes (has_folders (keys_of es)) es l.closed))
          (there k h) (λ y q. subst (λ x. has_folders (keys_of new) x ≡ true) (same_path k y q)
          (there k h)));
    }

-- the folders of a path with one more part are those of the path, and the path
pub folders_of-push : (p : PartValue) (path : PathValue) (x : PartValue) → folders_of (p ∷ (path ++ x ∷ []))
    ≡ folders_of (p ∷ path) ++ (p ∷ path) ∷ []
folders_of-push p [] x = refl
folders_of-push p (q ∷ path) x = ap (λ qs. (p ∷ []) ∷ map (λ folder. p ∷ folder) qs) (folders_of-push q path x)
    ∙ ap (λ qs. (p ∷ []) ∷ qs) (map-push (λ folder. p ∷ folder) (folders_of (q ∷ path)) (q ∷ path))
  where
    map-push : (f : PathValue → PathValue) (xs : List PathValue) (y : PathValue) → map f (xs ++ y ∷ [])
        ≡ map f xs ++ f y ∷ []
    map-push f [] y = refl
    map-push f (x ∷ xs) y = ap (λ r. f x ∷ r) (map-push f xs y)

-- a test of one more
pub all-push : (t : PathValue → Bool) (qs : List PathValue) (q : PathValue) → list_all t qs ≡ true →
    t q ≡ true → list_all t (qs ++ q ∷ []) ≡ true
all-push t [] q h k = rw k refl
all-push t (p ∷ ps) q h k = let b = and_both (t p) (list_all t ps) h in rw b.0 (all-push t ps q b.1 k)

-- where a path and its folders are there, the folders of what stands in it are
pub folders-child : (es : ListingValue) (path : PathValue) (x : PartValue) → is_nonempty path ≡ true →
    has_folders (keys_of es) path ≡ true → has_entry es path ≡ true → has_folders (keys_of es) (path ++ x ∷ [])
    ≡ true
folders-child es [] x n h k = absurd (true≢false (sym n))
folders-child es (p ∷ path) x n h k =
    rw (folders_of-push p path x) (all-push (has_path (keys_of es)) (folders_of (p ∷ path)) (p ∷ path) h k)

-- what was put in is there
pub has_entry-inserted : (es : ListingValue) (k : PathValue) (f : Found) →
    has_entry (insert_entry path_cmp es k f) k ≡ true
has_entry-inserted es k f = has_entry-some (insert_entry path_cmp es k f) k
    ∙ ap is_some (lookup-insert_same path_cmp_total es k f)

-- a name behind a path leaves it not empty
pub nonempty-child : (path : PathValue) (x : PartValue) → is_nonempty (path ++ x ∷ []) ≡ true
nonempty-child [] x = refl
nonempty-child (p ∷ path) x = refl

-- the path of an entry is that of its folder and its name
pub child-is : (folder : PathValue) (name : List ℕ) (path : PathValue) → Some path ≡ child_of folder name →
    path ≡ folder ++ NamePart name ∷ []
child-is folder name path h = by (is_proper_name name) h
  where
    by : (b : Bool) → Some path ≡ (if b then Some (folder ++ NamePart name ∷ []) else None) →
        path ≡ folder ++ NamePart name ∷ []
    by true e = cc
    by false e = cc

-- the first part has no folder above it
pub folders-first : (es : ListingValue) (root : PathValue) → is_nonempty root ≡ true →
    has_folders (keys_of es) (take 1 root) ≡ true
folders-first es [] h = absurd (true≢false (sym h))
folders-first es (x ∷ root) h = refl

-- the folders of one more part
pub folders-next : (es : ListingValue) (root : PathValue) (n : ℕ) → 1 ≤ n → n < length root →
    has_folders (keys_of es) (take n root) ≡ true → has_entry es (take n root) ≡ true →
    has_folders (keys_of es) (take (n + 1) root) ≡ true
folders-next es root n low high h k =
    let more = take-more n root high in
    rw more.1 (folders-child es (take n root) more.0 (nonempty-take n root low high) h k)
  where
    take-more : (n : ℕ) (xs : PathValue) → n < length xs →
        (x : PartValue) × (take (n + 1) xs ≡ take n xs ++ x ∷ [])
    take-more n [] l = absurd (omega (arith, l))
    take-more zero (x ∷ xs) l = (x, refl)
    take-more (suc n) (x ∷ xs) l =
        let r = take-more n xs (omega (arith, l)) in
        let one : suc n + 1 ≡ suc (n + 1) = omega arith in
        (r.0, rw one (ap (λ t. x ∷ t) r.1))

    nonempty-take : (n : ℕ) (xs : PathValue) → 1 ≤ n → n < length xs → is_nonempty (take n xs) ≡ true
    nonempty-take n [] l h = absurd (omega (arith, h))
    nonempty-take zero (x ∷ xs) l h = absurd (omega (arith, l))
    nonempty-take (suc n) (x ∷ xs) l h = refl
