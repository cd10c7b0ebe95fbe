-- What lies at or below a path, and which entries a walk down from it adds to a listing.
use Rattle.std.proofs.Common.{◌≡◌, ℕ, zero, suc, Bool, true, false, ◌&&◌, ◌||◌, List, [], ◌∷◌, ◌++◌, drop, length, refl, ap, sym, ◌∙◌, Some, None, true≢false, append_assoc}
use Rattle.std.specs.Prelude.{Option, is_some, if◌then◌else◌}
use Rattle.std.specs.List.{list_any}
use Rattle.std.specs.Str.{bytes_eq}
use Rattle.std.specs.BTreeMap.{is_at, insert_entry}
use Rattle.std.proofs.lemmas.Slice.Eq.{bytes_eq-Decides}
use mathlib.Core.List.{append-nil}
use Rattle.notify_paths.specs.Path.{PathValue, PartValue, RootPart, CurPart, ParentPart, NamePart, part_eq, path_cmp, is_prefix}
use Rattle.notify_paths.specs.PathText.{is_proper_name}
use Rattle.notify_paths.specs.PathLaws.{part_eq_decides}
use Rattle.notify_paths.proofs.Prefixes.{and_false}
use Rattle.poll_listing.specs.declared.entry.EntryKind.TheVariants.{Folder}
use Rattle.poll_listing.specs.declared.entry.Found.{Found}
use Rattle.poll_listing.specs.Listing.{ListingValue, entry_at, has_entry}
use Rattle.poll_listing.specs.Changes.{is_of_kind}
use Rattle.poll_listing.specs.Near.{is_name_part}
use Rattle.poll_rounds.specs.Folders.{reach, reaches, Adds, AreNames}
use Rattle.poll_listing.proofs.BehindLemmas.{prefix-front, prefix-append, prefix-rest, drop-append, at-same, at-no_prefix, at-longer}
use Rattle.poll_listing.proofs.PrefixLemmas.{prefix-trans}
use Rattle.poll_listing.proofs.PairLemmas.{at_itself}
use Rattle.poll_listing.proofs.WalkLemmas.{has_entry-some}
use Rattle.poll_listing.proofs.ListingLemmas.{entry_at-insert}

-- by tests that are alike
pub Adds-alike : (tree : ListingValue) (t u : PathValue → Bool) (es fs : ListingValue) →
    ((q : PathValue) → t q ≡ u q) → Adds tree t es fs → Adds tree u es fs
Adds-alike tree t u es fs same h = λ q. h q ∙ ap (λ b. if b then entry_at tree q else entry_at es q) (same q)

-- by one test after the other
pub Adds-then : (tree : ListingValue) (t u : PathValue → Bool) (es fs gs : ListingValue) → Adds tree t es fs →
    Adds tree u fs gs → Adds tree (λ q. t q || u q) es gs
Adds-then tree t u es fs gs h k = λ q. k q ∙ by q (t q) (u q) (h q)
  where
    by : (q : PathValue) (a b : Bool) → entry_at fs q ≡ (if a then entry_at tree q else entry_at es q) →
        (if b then entry_at tree q else entry_at fs q) ≡ (if a || b then entry_at tree q else entry_at es q)
    by q true true e = refl
    by q false true e = refl
    by q true false e = e
    by q false false e = e

-- by no path
pub Adds-none : (tree : ListingValue) (t : PathValue → Bool) (es : ListingValue) →
    ((q : PathValue) → t q ≡ false) → Adds tree t es es
Adds-none tree t es h = λ q. ap (λ b. if b then entry_at tree q else entry_at es q) (sym (h q))

-- by one entry
pub Adds-one : (tree : ListingValue) (es : ListingValue) (p : PathValue) (f : Found) →
    entry_at tree p ≡ Some f → Adds tree (λ q. is_at (path_cmp q) p) es (insert_entry path_cmp es p f)
Adds-one tree es p f h = λ q. by q (is_at (path_cmp q) p) refl
  where
    by : (q : PathValue) (b : Bool) → is_at (path_cmp q) p ≡ b → entry_at (insert_entry path_cmp es p f) q
        ≡ (if b then entry_at tree q else entry_at es q)
    by q true e = entry_at-insert es p q f true e ∙ (sym h ∙ ap (entry_at tree) (sym (at-same q p e)))
    by q false e = entry_at-insert es p q f false e

module _ (tree : ListingValue) where
  -- where nothing stands, nothing is reached
  pub reach-none : (d : ℕ) (p : PathValue) (r : List PartValue) → entry_at tree p ≡ None →
      reach tree d p r ≡ false
  reach-none d p [] h = has_entry-some tree p ∙ ap is_some h
  reach-none zero p (x ∷ r) h = refl
  reach-none (suc d) p (x ∷ r) h =
      ap (λ o. is_of_kind Folder o && (is_name_part x && reach tree d (p ++ x ∷ []) r)) h

  -- where something is reached, something stands
  pub reach-there : (d : ℕ) (p : PathValue) (r : List PartValue) → reach tree d p r ≡ true →
      has_entry tree p ≡ true
  reach-there d p r h = by (entry_at tree p) refl
    where
      by : (o : Option Found) → entry_at tree p ≡ o → has_entry tree p ≡ true
      by None e = absurd (true≢false (sym h ∙ reach-none d p r e))
      by (Some f) e = has_entry-some tree p ∙ ap is_some e

  -- .. from a path to what lies behind it
  pub reaches-append : (d : ℕ) (p r : PathValue) → reaches tree d p (p ++ r) ≡ reach tree d p r
  reaches-append d p r = ap (λ b. b && reach tree d p (drop (length p) (p ++ r))) (prefix-append p r)
      ∙ ap (reach tree d p) (drop-append p r)

  -- .. nothing that doesn't lie at or below it
  pub reaches-outside : (d : ℕ) (p q : PathValue) → is_prefix p q ≡ false → reaches tree d p q ≡ false
  reaches-outside d p q h = ap (λ b. b && reach tree d p (drop (length p) q)) h

  -- .. where nothing stands
  pub reaches-none : (d : ℕ) (p : PathValue) → entry_at tree p ≡ None → (q : PathValue) → reaches tree d p q
      ≡ false
  reaches-none d p h q = ap (λ b. is_prefix p q && b) (reach-none d p (drop (length p) q) h)
      ∙ and_false (is_prefix p q)

  -- where nothing behind it is looked at, a path reaches itself
  pub reaches-alone : (d : ℕ) (p : PathValue) (f : Found) → entry_at tree p ≡ Some f →
      ((x : PartValue) (r : List PartValue) → reach tree d p (x ∷ r) ≡ false) → (q : PathValue) →
      is_at (path_cmp q) p ≡ reaches tree d p q
  reaches-alone d p f h last q = by (is_prefix p q) refl
    where
      at : (r : PathValue) → q ≡ p ++ r → is_at (path_cmp q) p ≡ reaches tree d p q
      at [] e =
          let same : q ≡ p = e ∙ append-nil p in
          let here : is_at (path_cmp q) p ≡ true = ap (λ z. is_at (path_cmp z) p) same ∙ at_itself p in
          let there : reaches tree d p q ≡ true = ap (reaches tree d p) e
          ∙ (reaches-append d p [] ∙ (has_entry-some tree p ∙ ap is_some h)) in
          here ∙ sym there
      at (x ∷ r) e =
          let here : is_at (path_cmp q) p ≡ false = ap (λ z. is_at (path_cmp z) p) e ∙ at-longer p x r in
          let there : reaches tree d p q ≡ false = ap (reaches tree d p) e
          ∙ (reaches-append d p (x ∷ r) ∙ last x r) in
          here ∙ sym there

      by : (b : Bool) → is_prefix p q ≡ b → is_at (path_cmp q) p ≡ reaches tree d p q
      by true e = at (drop (length p) q) (prefix-rest p q e)
      by false e = at-no_prefix q p e ∙ sym (reaches-outside d p q e)

  -- .. a file or other, or no level is left
  pub reach-no_level : (p : PathValue) (x : PartValue) (r : List PartValue) → reach tree 0 p (x ∷ r) ≡ false
  reach-no_level p x r = refl

  pub reach-no_folder : (d : ℕ) (p : PathValue) → is_of_kind Folder (entry_at tree p) ≡ false →
      (x : PartValue) (r : List PartValue) → reach tree d p (x ∷ r) ≡ false
  reach-no_folder zero p h x r = refl
  reach-no_folder (suc d) p h x r = ap (λ b. b && (is_name_part x && reach tree d (p ++ x ∷ []) r)) h

  -- the path is one of those that the entry of this name reaches
  abbrev pub in_child : ℕ → PathValue → PathValue → List ℕ → Bool
  in_child d p q name = is_proper_name name && reaches tree d (p ++ NamePart name ∷ []) q

  -- from another part on
  reaches-part : (d : ℕ) (p : PathValue) (y x : PartValue) (s : PathValue) →
      reaches tree d (p ++ y ∷ []) (p ++ x ∷ s) ≡ (part_eq y x && reach tree d (p ++ x ∷ []) s)
  reaches-part d p y x s = by (part_eq y x) refl
    where
      by : (b : Bool) → part_eq y x ≡ b → reaches tree d (p ++ y ∷ []) (p ++ x ∷ s)
          ≡ (b && reach tree d (p ++ x ∷ []) s)
      by true e =
          let same : y ≡ x = (part_eq_decides y x).0 e in
          ap (λ z. reaches tree d (p ++ z ∷ []) (p ++ x ∷ s)) same
          ∙ (ap (reaches tree d (p ++ x ∷ [])) (sym (append_assoc p (x ∷ []) s))
          ∙ reaches-append d (p ++ x ∷ []) s)
      by false e = reaches-outside d (p ++ y ∷ []) (p ++ x ∷ s) (prefix-front p (y ∷ []) (x ∷ s)
          ∙ ap (λ b. b && true) e)

  -- none passes
  any-none : {X : Type 0} (t : X → Bool) (xs : List X) → ((x : X) → t x ≡ false) → list_any t xs ≡ false
  any-none t [] h = refl
  any-none t (x ∷ xs) h = rw (h x) (any-none t xs h)

  -- tests that are alike
  any-alike : {X : Type 0} (t u : X → Bool) (xs : List X) → ((x : X) → t x ≡ u x) →
      list_any t xs ≡ list_any u xs
  any-alike t u [] h = refl
  any-alike t u (x ∷ xs) h = ap (λ b. b || list_any t xs) (h x) ∙ ap (λ b. u x || b) (any-alike t u xs h)

  -- a test and a fact
  both_or : (c b m l : Bool) → l ≡ (m && b) → ((c && b) || l) ≡ ((c || m) && b)
  both_or true true m l e = refl
  both_or true false m l e = e ∙ and_false m
  both_or false b m l e = e

  any-and : {X : Type 0} (t : X → Bool) (b : Bool) (xs : List X) → list_any (λ x. t x && b) xs
      ≡ (list_any t xs && b)
  any-and t b [] = refl
  any-and t b (x ∷ xs) = both_or (t x) b (list_any t xs) (list_any (λ x. t x && b) xs) (any-and t b xs)

  -- a name's test is that of its bytes
  name-test : (m n : List ℕ) (r : Bool) → (is_proper_name n && (part_eq (NamePart n) (NamePart m) && r))
      ≡ (bytes_eq m n && (is_proper_name m && r))
  name-test m n r = by (bytes_eq m n) refl
    where
      other : (b : Bool) → bytes_eq m n ≡ false → part_eq (NamePart n) (NamePart m) ≡ b → b ≡ false
      other true e h =
          let parts : NamePart n ≡ NamePart m = (part_eq_decides (NamePart n) (NamePart m)).0 h in
          let same : m ≡ n = cc in
          absurd (true≢false (sym ((bytes_eq-Decides m n).1 same) ∙ e))
      other false e h = refl

      by : (b : Bool) → bytes_eq m n ≡ b → (is_proper_name n && (part_eq (NamePart n) (NamePart m) && r))
          ≡ (b && (is_proper_name m && r))
      by true e =
          let same : m ≡ n = (bytes_eq-Decides m n).0 e in
          let part : part_eq (NamePart n) (NamePart m) ≡ true =
          (part_eq_decides (NamePart n) (NamePart m)).1 (ap NamePart (sym same)) in
          ap (λ b. is_proper_name n && (b && r)) part ∙ ap (λ k. is_proper_name k && r) (sym same)
      by false e = ap (λ b. is_proper_name n && (b && r)) (other (part_eq (NamePart n) (NamePart m)) e refl)
          ∙ and_false (is_proper_name n)

  -- what the entries of these names reach behind one part
  through_child : (d : ℕ) (p : PathValue) (names : List (List ℕ)) → AreNames tree p names →
      (x : PartValue) (s : PathValue) → list_any (in_child d p (p ++ x ∷ s)) names
      ≡ (is_name_part x && reach tree d (p ++ x ∷ []) s)
  through_child d p names are RootPart s =
      any-none (in_child d p (p ++ RootPart ∷ s))
      names (λ n. ap (λ b. is_proper_name n && b) (reaches-part d p (NamePart n) RootPart s)
      ∙ and_false (is_proper_name n))
  through_child d p names are CurPart s =
      any-none (in_child d p (p ++ CurPart ∷ s))
      names (λ n. ap (λ b. is_proper_name n && b) (reaches-part d p (NamePart n) CurPart s)
      ∙ and_false (is_proper_name n))
  through_child d p names are ParentPart s =
      any-none (in_child d p (p ++ ParentPart ∷ s))
      names (λ n. ap (λ b. is_proper_name n && b) (reaches-part d p (NamePart n) ParentPart s)
      ∙ and_false (is_proper_name n))
  through_child d p names are (NamePart m) s =
      any-alike (in_child d p (p ++ NamePart m ∷ s)) (λ n. bytes_eq m n
      && (is_proper_name m && reach tree d (p ++ NamePart m ∷ []) s))
      names (λ n. ap (λ b. is_proper_name n && b) (reaches-part d p (NamePart n) (NamePart m) s)
      ∙ name-test m n (reach tree d (p ++ NamePart m ∷ []) s))
      ∙ (any-and (bytes_eq m) (is_proper_name m && reach tree d (p ++ NamePart m ∷ []) s) names
      ∙ (ap (λ b. b && (is_proper_name m && reach tree d (p ++ NamePart m ∷ []) s)) (are m)
      ∙ by (reach tree d (p ++ NamePart m ∷ []) s) refl))
    where
      by : (b : Bool) → reach tree d (p ++ NamePart m ∷ []) s ≡ b →
          (has_entry tree (p ++ NamePart m ∷ []) && (is_proper_name m && b)) ≡ (is_proper_name m && b)
      by true e = ap (λ h. h && (is_proper_name m && true)) (reach-there d (p ++ NamePart m ∷ []) s e)
      by false e = ap (λ z. has_entry tree (p ++ NamePart m ∷ []) && z) (and_false (is_proper_name m))
          ∙ (and_false (has_entry tree (p ++ NamePart m ∷ [])) ∙ sym (and_false (is_proper_name m)))

  -- what is of a kind is there
  pub kind-there : (p : PathValue) → is_of_kind Folder (entry_at tree p) ≡ true → has_entry tree p ≡ true
  kind-there p h = has_entry-some tree p ∙ by (entry_at tree p) h
    where
      by : (o : Option Found) → is_of_kind Folder o ≡ true → is_some o ≡ true
      by None h = h
      by (Some f) h = refl

  -- a folder reaches itself and what its entries reach
  pub reaches-folder : (d : ℕ) (p : PathValue) (names : List (List ℕ)) → is_of_kind Folder (entry_at tree p)
      ≡ true → AreNames tree p names → (q : PathValue) →
      (is_at (path_cmp q) p || list_any (in_child d p q) names) ≡ reaches tree (suc d) p q
  reaches-folder d p names folder are q = by (is_prefix p q) refl
    where
      outside : is_prefix p q ≡ false → (n : List ℕ) → (b : Bool) → is_prefix (p ++ NamePart n ∷ []) q ≡ b →
          b ≡ false
      outside h n true e =
          absurd (true≢false
          (sym (prefix-trans p (p ++ NamePart n ∷ []) q (prefix-append p (NamePart n ∷ [])) e) ∙ h))
      outside h n false e = refl

      at : (r : PathValue) → q ≡ p ++ r → (is_at (path_cmp q) p || list_any (in_child d p q) names)
          ≡ reaches tree (suc d) p q
      at [] e =
          let same : q ≡ p = e ∙ append-nil p in
          let here : is_at (path_cmp q) p ≡ true = ap (λ z. is_at (path_cmp z) p) same ∙ at_itself p in
          let there : reaches tree (suc d) p q ≡ true = ap (reaches tree (suc d) p) e
          ∙ (reaches-append (suc d) p [] ∙ kind-there p folder) in
          ap (λ b. b || list_any (in_child d p q) names) here ∙ sym there
      at (x ∷ s) e =
          ap (λ z. is_at (path_cmp z) p || list_any (in_child d p z) names) e
          ∙ (ap (λ b. b || list_any (in_child d p (p ++ x ∷ s)) names) (at-longer p x s)
          ∙ (through_child d p names are x s
          ∙ (ap (λ b. b && (is_name_part x && reach tree d (p ++ x ∷ []) s)) (sym folder)
          ∙ (sym (reaches-append (suc d) p (x ∷ s)) ∙ ap (reaches tree (suc d) p) (sym e)))))

      by : (b : Bool) → is_prefix p q ≡ b → (is_at (path_cmp q) p || list_any (in_child d p q) names)
          ≡ reaches tree (suc d) p q
      by true e = at (drop (length p) q) (prefix-rest p q e)
      by false e =
          let none : list_any (in_child d p q) names ≡ false =
          any-none (in_child d p q)
          names (λ n. ap (λ b. is_proper_name n
          && b) (reaches-outside d (p ++ NamePart n ∷ []) q
          (outside e n (is_prefix (p ++ NamePart n ∷ []) q) refl)) ∙ and_false (is_proper_name n)) in
          ap (λ b. b || list_any (in_child d p q) names) (at-no_prefix q p e)
          ∙ (none ∙ sym (reaches-outside (suc d) p q e))
