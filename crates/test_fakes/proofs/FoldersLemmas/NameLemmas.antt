-- The names in a folder, found by a walk over the entries of a tree.
use Rattle.std.proofs.Common.{◌≡◌, ℕ, Bool, true, false, ◌||◌, List, [], ◌∷◌, ◌++◌, drop, length, refl, ap, sym, ◌∙◌, Some, None, true≢false}
use Rattle.std.specs.Prelude.{Option, if◌then◌else◌}
use Rattle.std.specs.declared.cmp.Ordering.TheVariants.{Equal}
use Rattle.std.specs.Ordering.{is_eq}
use Rattle.std.specs.List.{list_any}
use Rattle.std.specs.Map.{keys_of}
use Rattle.std.specs.BTreeMap.{is_at}
use Rattle.std.specs.Str.{bytes_eq}
use Rattle.std.proofs.lemmas.Cmp.{tied_itself}
use Rattle.std.proofs.lemmas.List.Folds.{list_any-append}
use Rattle.std.proofs.lemmas.Slice.Eq.{bytes_eq-Decides}
use Rattle.notify_paths.specs.Path.{PathValue, RootPart, CurPart, ParentPart, NamePart, part_cmp, part_bytes, path_cmp, is_prefix}
use Rattle.notify_paths.specs.PathLaws.{part_cmp_total, path_eq_decides, path_matches_eq}
use Rattle.debounce_model.specs.Play.{has_path}
use Rattle.poll_listing.specs.declared.entry.Found.{Found}
use Rattle.poll_listing.specs.Listing.{ListingValue, has_entry}
use Rattle.poll_listing.proofs.BehindLemmas.{at-same, prefix-append, prefix-rest}
use Rattle.test_fakes.specs.Folders.Tree.{only_name, name_in}

-- the name is this one, if it is one
abbrev pub is_this : List ℕ → Option (List ℕ) → Bool
is_this name None = false
is_this name (Some other) = bytes_eq name other

-- what follows the same parts is compared alone
cmp-front : (p a b : PathValue) → path_cmp (p ++ a) (p ++ b) ≡ path_cmp a b
cmp-front [] a b = refl
cmp-front (x ∷ p) a b = let t : part_cmp x x ≡ Equal = tied_itself part_cmp_total x in rw t (cmp-front p a b)

-- a path of one name is another, or not, as their names are
one_name : (name other : List ℕ) → is_at (path_cmp (NamePart name ∷ [])) (NamePart other ∷ [])
    ≡ bytes_eq name other
one_name name other = by (is_at (path_cmp (NamePart name ∷ [])) (NamePart other ∷ [])) (bytes_eq name other)
    refl refl
  where
    first_bytes : PathValue → List ℕ
    first_bytes [] = []
    first_bytes (x ∷ p) = part_bytes x

    by : (a b : Bool) → is_at (path_cmp (NamePart name ∷ [])) (NamePart other ∷ []) ≡ a → bytes_eq name other
        ≡ b → a ≡ b
    by true true h k = refl
    by false false h k = refl
    by true false h k = let same : name ≡ other =
        ap first_bytes (at-same (NamePart name ∷ []) (NamePart other ∷ []) h) in
        absurd (true≢false (sym ((bytes_eq-Decides name other).1 same) ∙ k))
    by false true h k =
        let same : name ≡ other = (bytes_eq-Decides name other).0 k in
        let tied : is_at (path_cmp (NamePart name ∷ [])) (NamePart other ∷ []) ≡ true =
        sym (path_matches_eq (NamePart name ∷ []) (NamePart other ∷ []))
        ∙ (path_eq_decides (NamePart name ∷ []) (NamePart other ∷ [])).1 (ap (λ n. NamePart n ∷ []) same) in
        absurd (true≢false (sym tied ∙ h))

-- parts that are not one name are not this one
other_parts : (name : List ℕ) (r : PathValue) → is_at (path_cmp (NamePart name ∷ [])) r
    ≡ is_this name (only_name r)
other_parts name [] = refl
other_parts name (RootPart ∷ r) = refl
other_parts name (CurPart ∷ r) = refl
other_parts name (ParentPart ∷ r) = refl
other_parts name (NamePart other ∷ []) = one_name name other
other_parts name (NamePart other ∷ x ∷ r) =
    by (is_at (path_cmp (NamePart name ∷ [])) (NamePart other ∷ x ∷ r)) refl
  where
    longer : NamePart name ∷ [] ≡ NamePart other ∷ x ∷ r → true ≡ false
    longer e = ap is_one e
      where
        is_one : PathValue → Bool
        is_one (y ∷ []) = true
        is_one p = false

    by : (b : Bool) → is_at (path_cmp (NamePart name ∷ [])) (NamePart other ∷ x ∷ r) ≡ b → b ≡ false
    by true h = longer (at-same (NamePart name ∷ []) (NamePart other ∷ x ∷ r) h)
    by false h = refl

-- the path is that of the name in the folder where its name there is this one
pub is_name_in : (folder path : PathValue) (name : List ℕ) →
    is_at (path_cmp (folder ++ NamePart name ∷ [])) path ≡ is_this name (name_in folder path)
is_name_in folder path name = by (is_prefix folder path) refl
  where
    by : (b : Bool) → is_prefix folder path ≡ b → is_at (path_cmp (folder ++ NamePart name ∷ [])) path
        ≡ is_this name (if b then only_name (drop (length folder) path) else None)
    by true h =
        ap (λ q. is_at (path_cmp (folder ++ NamePart name ∷ [])) q) (prefix-rest folder path h)
        ∙ (at (path_cmp (folder ++ NamePart name ∷ []) (folder ++ drop (length folder) path))
        (cmp-front folder (NamePart name ∷ []) (drop (length folder) path))
        ∙ other_parts name (drop (length folder) path))
      where
        at : (o : _) → o ≡ path_cmp (NamePart name ∷ []) (drop (length folder) path) →
            is_eq o ≡ is_at (path_cmp (NamePart name ∷ [])) (drop (length folder) path)
        at o e = ap is_eq e
    by false h = none (is_at (path_cmp (folder ++ NamePart name ∷ [])) path) refl
      where
        none : (b : Bool) → is_at (path_cmp (folder ++ NamePart name ∷ [])) path ≡ b → b ≡ false
        none true e = let same : folder ++ NamePart name ∷ [] ≡ path =
            at-same (folder ++ NamePart name ∷ []) path e in sym (prefix-append folder (NamePart name ∷ []))
            ∙ (ap (is_prefix folder) same ∙ h)
        none false e = refl

-- these are the names of the folder's entries but for those that are left
abbrev pub AreSoFar : ListingValue → PathValue → ListingValue → List (List ℕ) → Type 0
AreSoFar tree folder rest names = (name : List ℕ) →
    (list_any (bytes_eq name) names || has_path (keys_of rest) (folder ++ NamePart name ∷ []))
    ≡ has_entry tree (folder ++ NamePart name ∷ [])

-- a test more at the end, and one more in front
or_shift : (a b c : Bool) → ((a || (b || false)) || c) ≡ (a || (b || c))
or_shift true b c = refl
or_shift false true c = refl
or_shift false false c = refl

-- one more name
pub one_more : (tree : ListingValue) (folder path : PathValue) (found : Found) (before rest : ListingValue)
    (names more : List (List ℕ)) (n : List ℕ) → before ≡ (path, found) ∷ rest → name_in folder path ≡ Some n →
    more ≡ names ++ n ∷ [] → AreSoFar tree folder before names → AreSoFar tree folder rest more
one_more tree folder path found before rest names more n h e k so_far = λ name.
    let q : PathValue = folder ++ NamePart name ∷ [] in
    let others : Bool = has_path (keys_of rest) q in
    let here : is_at (path_cmp q) path ≡ bytes_eq name n = is_name_in folder path name ∙ ap (is_this name) e in
    ap (λ ns. list_any (bytes_eq name) ns || others) k
    ∙ (ap (λ b. b || others) (list_any-append (bytes_eq name) names (n ∷ []))
    ∙ (or_shift (list_any (bytes_eq name) names) (bytes_eq name n) others
    ∙ (ap (λ b. list_any (bytes_eq name) names || (b || others)) (sym here)
    ∙ (ap (λ es. list_any (bytes_eq name) names || has_path (keys_of es) q) (sym h) ∙ so_far name))))

-- no name here
pub no_more : (tree : ListingValue) (folder path : PathValue) (found : Found) (before rest : ListingValue)
    (names : List (List ℕ)) → before ≡ (path, found) ∷ rest → name_in folder path ≡ None →
    AreSoFar tree folder before names → AreSoFar tree folder rest names
no_more tree folder path found before rest names h e so_far = λ name.
    let q : PathValue = folder ++ NamePart name ∷ [] in
    let others : Bool = has_path (keys_of rest) q in
    let here : is_at (path_cmp q) path ≡ false = is_name_in folder path name ∙ ap (is_this name) e in
    ap (λ b. list_any (bytes_eq name) names || (b || others)) (sym here)
    ∙ (ap (λ es. list_any (bytes_eq name) names || has_path (keys_of es) q) (sym h) ∙ so_far name)
