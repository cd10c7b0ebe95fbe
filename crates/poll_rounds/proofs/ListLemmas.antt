-- The steps of a listing, where the folders may tell their tree. Each lemma goes by whether they do.
use Rattle.std.proofs.Common.{◌≡◌, ℕ, suc, ◌+◌, ◌<◌, ◌≤◌, Bool, true, false, ◌&&◌, ◌||◌, List, [], ◌∷◌, ◌++◌, map, take, get_or, length, refl, ap, sym, subst, ◌∙◌, Some, None, take_all}
use Rattle.std.specs.Prelude.{Option, Result, Ok, Err, OnOk, IfSome, if◌then◌else◌}
use Rattle.std.specs.Option.{option_map}
use Rattle.std.specs.List.{list_any}
use Rattle.std.specs.List.Sorted.{IsPermutation}
use Rattle.std.specs.Str.{bytes_eq}
use Rattle.std.specs.BTreeMap.{is_at, insert_entry}
use Rattle.std.proofs.lemmas.List.Folds.{list_any_more}
use Rattle.std.proofs.lemmas.List.Sorted.{list_any-IsPermutation}
use Rattle.notify_paths.specs.Path.{PathValue, PartValue, NamePart, path_cmp}
use Rattle.notify_paths.specs.PathText.{is_proper_name}
use Rattle.notify_paths.specs.PathMoves.{child_of}
use Rattle.poll_listing.specs.declared.entry.EntryKind.TheVariants.{Folder}
use Rattle.poll_listing.specs.declared.entry.Found.{Found}
use Rattle.poll_listing.specs.Listing.{ListingValue, entry_at, is_same_kind}
use Rattle.poll_listing.specs.Changes.{is_of_kind}
use Rattle.poll_rounds.specs.Folders.{reach, reaches, Adds, AreNames, NamesOf}
use Rattle.poll_listing.proofs.WalkLemmas.{or_false}
use Rattle.poll_rounds.proofs.ReachLemmas.{Adds-alike, Adds-then, Adds-none, Adds-one, reaches-none, reaches-alone, reach-no_folder, in_child, reaches-folder}

-- the tests of lists
pub any-map : {X Y : Type 0} (p : Y → Bool) (f : X → Y) (xs : List X) → list_any p (map f xs)
    ≡ list_any (λ x. p (f x)) xs
any-map p f [] = refl
any-map p f (x ∷ xs) = ap (λ b. p (f x) || b) (any-map p f xs)

or-assoc : (a b c : Bool) → ((a || b) || c) ≡ (a || (b || c))
or-assoc true b c = refl
or-assoc false b c = refl

-- nothing is there, and nothing is added
pub missing : (o : Option ListingValue) (look : Option Found) (d : ℕ) (p : PathValue) (es : ListingValue) →
    IfSome o (λ tree. look ≡ entry_at tree p) → look ≡ None →
    IfSome o (λ tree. Adds tree (reaches tree d p) es es)
missing None look d p es h e = tt
missing (Some tree) look d p es h e = Adds-none tree (reaches tree d p) es (reaches-none tree d p (sym h ∙ e))

-- no level is left, or there is no folder: one entry is added
pub alone : {T E : Type 0} (o : Option ListingValue) (r : Result T E) (look : Option Found) (f : Found) (d : ℕ)
    (p : PathValue) (es fs : ListingValue) → IfSome o (λ tree. look ≡ entry_at tree p) → look ≡ Some f →
    ((tree : ListingValue) → entry_at tree p ≡ Some f → (x : PartValue) (s : List PartValue) →
    reach tree d p (x ∷ s) ≡ false) → OnOk r (fs ≡ insert_entry path_cmp es p f) →
    IfSome o (λ tree. OnOk r (Adds tree (reaches tree d p) es fs))
alone None r look f d p es fs h e last k = tt
alone (Some tree) (Err x) look f d p es fs h e last k = tt
alone (Some tree) (Ok x) look f d p es fs h e last k =
    let here : entry_at tree p ≡ Some f = sym h ∙ e in
    subst (λ z. Adds tree (reaches tree d p) es z) (sym k)
    (Adds-alike tree (λ q. is_at (path_cmp q) p) (reaches tree d p) es (insert_entry path_cmp es p f)
    (reaches-alone tree d p f here (last tree here)) (Adds-one tree es p f here))

-- no level is left
pub no_level : (d : ℕ) (p : PathValue) (f : Found) → d ≡ 0 → (tree : ListingValue) → entry_at tree p ≡ Some f →
    (x : PartValue) (s : List PartValue) → reach tree d p (x ∷ s) ≡ false
no_level d p f h tree e x s = ap (λ n. reach tree n p (x ∷ s)) h

-- there is no folder
pub no_folder : (d : ℕ) (p : PathValue) (f : Found) → is_same_kind Folder f.kind ≡ false →
    (tree : ListingValue) → entry_at tree p ≡ Some f → (x : PartValue) (s : List PartValue) →
    reach tree d p (x ∷ s) ≡ false
no_folder d p f h tree e x s = reach-no_folder tree d p (ap (is_of_kind Folder) e ∙ h) x s

module _ {X : Type 0} (text : X → List ℕ) (o : Option ListingValue) (d : ℕ) (p : PathValue) (es : ListingValue)
  where
    -- the folder and what these entries reach was added
    abbrev pub HasAdded : List X → ListingValue → Type 0
    HasAdded xs fs =
        IfSome o (λ tree. Adds tree (λ q. is_at (path_cmp q) p
        || list_any (λ name. in_child tree d p q (text name)) xs) es fs)

    -- the folder alone
    pub begun : (look : Option Found) (f : Found) (fs : ListingValue) →
        IfSome o (λ tree. look ≡ entry_at tree p) → look ≡ Some f → fs ≡ insert_entry path_cmp es p f →
        HasAdded [] fs
    begun look f fs h e k = by o h
      where
        by : (o : Option ListingValue) → IfSome o (λ tree. look ≡ entry_at tree p) →
            IfSome o (λ tree. Adds tree (λ q. is_at (path_cmp q) p || false) es fs)
        by None h = tt
        by (Some tree) h =
            subst (λ z. Adds tree (λ q. is_at (path_cmp q) p || false) es z) (sym k)
            (Adds-alike tree (λ q. is_at (path_cmp q) p) (λ q. is_at (path_cmp q) p || false) es
            (insert_entry path_cmp es p f) (λ q. sym (or_false (is_at (path_cmp q) p)))
            (Adds-one tree es p f (sym h ∙ e)))

    -- a path that is a child's has a name
    proper : (child : PathValue) (name : List ℕ) → Some child ≡ child_of p name → (is_proper_name name ≡ true)
        × (child ≡ p ++ NamePart name ∷ [])
    proper child name h = by (is_proper_name name) h
      where
        by : (b : Bool) → Some child ≡ (if b then Some (p ++ NamePart name ∷ []) else None) →
            (b ≡ true) × (child ≡ p ++ NamePart name ∷ [])
        by true e = (refl, cc)
        by false e = cc

    -- .. and what is no name has none
    improper : (name : List ℕ) → None ≡ child_of p name → is_proper_name name ≡ false
    improper name h = by (is_proper_name name) h
      where
        by : (b : Bool) → None ≡ (if b then Some (p ++ NamePart name ∷ []) else None) → b ≡ false
        by true e = cc
        by false e = refl

    -- one more entry
    pub goes_on : (xs : List X) (i : ℕ) (x : X) (child : PathValue) (name : List ℕ) (fs gs : ListingValue) →
        i < length xs → x ≡ get_or xs i x → text x ≡ name → Some child ≡ child_of p name →
        HasAdded (take i xs) fs → IfSome o (λ tree. Adds tree (reaches tree d child) fs gs) →
        HasAdded (take (i + 1) xs) gs
    goes_on xs i x child name fs gs l at t c h k = by o h k
      where
        by : (o : Option ListingValue) →
            IfSome o (λ tree. Adds tree (λ q. is_at (path_cmp q) p
            || list_any (λ name. in_child tree d p q (text name)) (take i xs)) es fs) →
            IfSome o (λ tree. Adds tree (reaches tree d child) fs gs) →
            IfSome o (λ tree. Adds tree (λ q. is_at (path_cmp q) p
            || list_any (λ name. in_child tree d p q (text name)) (take (i + 1) xs)) es gs)
        by None h k = tt
        by (Some tree) h k =
            let two = proper child name c in
            let same : (q : PathValue) → reaches tree d child q ≡ in_child tree d p q (text (get_or xs i x)) =
            λ q. ap (λ z. reaches tree d z q) two.1
            ∙ (ap (λ b. b && reaches tree d (p ++ NamePart name ∷ []) q) (sym two.0)
            ∙ ap (in_child tree d p q) (sym t ∙ ap text at)) in
            Adds-alike tree (λ q. (is_at (path_cmp q) p
            || list_any (λ name. in_child tree d p q (text name)) (take i xs)) || reaches tree d child q)
            (λ q. is_at (path_cmp q) p
            || list_any (λ name. in_child tree d p q (text name)) (take (i + 1) xs)) es gs
            (λ q.
            or-assoc (is_at (path_cmp q) p) (list_any (λ name. in_child tree d p q (text name)) (take i xs))
            (reaches tree d child q)
            ∙ ap (λ b. is_at (path_cmp q) p
            || b) (ap (λ b. list_any (λ name. in_child tree d p q (text name)) (take i xs) || b) (same q)
            ∙ sym (list_any_more (λ name. in_child tree d p q (text name)) xs i x l)))
            (Adds-then tree (λ q. is_at (path_cmp q) p
            || list_any (λ name. in_child tree d p q (text name)) (take i xs)) (reaches tree d child) es fs gs
            h k)

    -- what is no name is passed over
    pub passes_over : (xs : List X) (i : ℕ) (x : X) (name : List ℕ) (fs : ListingValue) → i < length xs →
        x ≡ get_or xs i x → text x ≡ name → None ≡ child_of p name → HasAdded (take i xs) fs →
        HasAdded (take (i + 1) xs) fs
    passes_over xs i x name fs l at t c h = by o h
      where
        by : (o : Option ListingValue) →
            IfSome o (λ tree. Adds tree (λ q. is_at (path_cmp q) p
            || list_any (λ name. in_child tree d p q (text name)) (take i xs)) es fs) →
            IfSome o (λ tree. Adds tree (λ q. is_at (path_cmp q) p
            || list_any (λ name. in_child tree d p q (text name)) (take (i + 1) xs)) es fs)
        by None h = tt
        by (Some tree) h =
            let no : is_proper_name (text (get_or xs i x)) ≡ false = ap is_proper_name (sym (ap text at) ∙ t)
            ∙ improper name c in
            Adds-alike tree (λ q. is_at (path_cmp q) p
            || list_any (λ name. in_child tree d p q (text name)) (take i xs)) (λ q. is_at (path_cmp q) p
            || list_any (λ name. in_child tree d p q (text name)) (take (i + 1) xs)) es fs
            (λ q.
            ap (λ b. is_at (path_cmp q) p || b)
            (sym (or_false (list_any (λ name. in_child tree d p q (text name)) (take i xs)))
            ∙ (ap (λ b. list_any (λ name. in_child tree d p q (text name)) (take i xs)
            || (b && reaches tree d (p ++ NamePart (text (get_or xs i x)) ∷ []) q)) (sym no)
            ∙ sym (list_any_more (λ name. in_child tree d p q (text name)) xs i x l))))
            h

    -- all entries
    pub ended : {V : Type 0} (names : V → List (List ℕ)) (r : Option V) (v : V) (xs : List X) (i : ℕ)
        (look : Option Found) (f : Found) (fs : ListingValue) → length xs ≤ i → names v ≡ map text xs →
        r ≡ Some v → look ≡ Some f → is_same_kind Folder f.kind ≡ true →
        IfSome o (λ tree. look ≡ entry_at tree p) → IfSome o (λ tree. NamesOf tree p (option_map names r)) →
        HasAdded (take i xs) fs → IfSome o (λ tree. Adds tree (reaches tree (suc d) p) es fs)
    ended names r v xs i look f fs l n e s folder h k a = by o h k a
      where
        by : (o : Option ListingValue) → IfSome o (λ tree. look ≡ entry_at tree p) →
            IfSome o (λ tree. NamesOf tree p (option_map names r)) →
            IfSome o (λ tree. Adds tree (λ q. is_at (path_cmp q) p
            || list_any (λ name. in_child tree d p q (text name)) (take i xs)) es fs) →
            IfSome o (λ tree. Adds tree (reaches tree (suc d) p) es fs)
        by None h k a = tt
        by (Some tree) h k a =
            let are : AreNames tree p (map text xs) =
            subst (AreNames tree p) n (subst (λ z. NamesOf tree p (option_map names z)) e k) in
            let here : is_of_kind Folder (entry_at tree p) ≡ true = ap (is_of_kind Folder) (sym h ∙ s)
            ∙ folder in
            Adds-alike tree (λ q. is_at (path_cmp q) p
            || list_any (λ name. in_child tree d p q (text name)) (take i xs)) (reaches tree (suc d) p) es fs
            (λ q.
            ap (λ ys. is_at (path_cmp q) p || list_any (λ name. in_child tree d p q (text name)) ys)
            (take_all i xs l)
            ∙ (ap (λ b. is_at (path_cmp q) p || b) (sym (any-map (in_child tree d p q) text xs))
            ∙ reaches-folder tree d p (map text xs) here are q))
            a

-- names in another order
pub names-permuted : {X V : Type 0} (text : X → List ℕ) (items : V → List X) (o : Option ListingValue)
    (p : PathValue) (r : Option V) (v w : V) → r ≡ Some v → IsPermutation (items v) (items w) →
    IfSome o (λ tree. NamesOf tree p (option_map (λ v. map text (items v)) r)) →
    IfSome o (λ tree. NamesOf tree p (Some (map text (items w))))
names-permuted text items None p r v w is h k = tt
names-permuted text items (Some tree) p r v w is h k =
    let are : AreNames tree p (map text (items v)) =
    subst (λ z. NamesOf tree p (option_map (λ v. map text (items v)) z)) is k in
    λ name. any-map (bytes_eq name) text (items w)
    ∙ (sym (list_any-IsPermutation (λ x. bytes_eq name (text x)) (items v) (items w) h)
    ∙ (sym (any-map (bytes_eq name) text (items v)) ∙ are name))
