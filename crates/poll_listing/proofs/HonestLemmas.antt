-- The changes between two listings are an honest stream of events, which leads from the old paths to the new ones.
use Rattle.std.proofs.Common.{◌≡◌, Bool, true, false, not, ◌&&◌, ◌||◌, cond, List, [], ◌∷◌, ◌++◌, map, refl, ap, sym, subst, ◌∙◌, Some, None, true≢false, append_assoc}
use Rattle.std.specs.Prelude.{Option, filter, is_some}
use Rattle.std.specs.declared.cmp.Ordering.{Ordering}
use Rattle.std.specs.declared.cmp.Ordering.TheVariants.{Less, Equal, Greater}
use Rattle.std.specs.List.{AllByRecursion, list_any, list_all}
use Rattle.std.specs.List.Sorted.{IsStrictlySortedBy}
use Rattle.std.specs.Map.{keys_of}
use Rattle.std.specs.BTreeMap.{is_at}
use Rattle.std.proofs.lemmas.Cmp.{tied_itself}
use Rattle.std.proofs.lemmas.List.Folds.{list_any-append}
use Rattle.notify_types.specs.Event.{EventValue}
use Rattle.notify_paths.specs.Path.{PathValue, part_cmp, path_cmp, path_eq, is_prefix, is_below}
use Rattle.notify_paths.specs.PathLaws.{part_cmp_total, path_cmp_total}
use Rattle.notify_types.specs.declared.kind.EventKind.{EventKind}
use Rattle.notify_paths.proofs.Prefixes.{same_path, prefix_itself}
use Rattle.debounce_model.specs.Play.{Paths, has_path, with_path, without_at, play_one, play}
use Rattle.debounce_model.specs.Honest.{folders_of, has_folders, is_honest_at, is_honest_event, are_honest}
use Rattle.debounce_model.proofs.Entries.{sorted-filter}
use Rattle.poll_listing.specs.declared.entry.EntryKind.{EntryKind}
use Rattle.poll_listing.specs.declared.entry.EntryKind.TheVariants.{File, Folder, Other}
use Rattle.poll_listing.specs.declared.entry.Found.{Found}
use Rattle.poll_listing.specs.Listing.{ListingValue, entry_at, is_nonempty, IsListing}
use Rattle.poll_listing.specs.Changes.{is_of_kind, is_rewritten, is_kept, gone, lies_in, lies_below, staying, removed, created, rewritten, removal_of, creation_of, event_at, removal, creation, rewrite, changes, LeadsTo}
use Rattle.poll_listing.proofs.PrefixLemmas.{prefix-trans, below_behind, not_below_itself, not_below_behind}
use Rattle.poll_listing.proofs.PairLemmas.{AreAbove, above-trans, turned, turned_less, at_itself}
use Rattle.poll_listing.proofs.WalkLemmas.{keys_of-filter, has-filter, has_entry-some}

-- both of two tests
pub and_both : (a b : Bool) → (a && b) ≡ true → (a ≡ true) × (b ≡ true)
and_both true b h = (refl, h)
and_both false b h = absurd (true≢false (sym h))

-- a test that the first of two does not decide
pub or_right : (a b : Bool) → b ≡ true → (a || b) ≡ true
or_right true b h = refl
or_right false b h = h

-- a test that is not false is true
not_false : (b : Bool) → (b ≡ false → ⊥) → b ≡ true
not_false true h = refl
not_false false h = absurd (h refl)

-- filters by equal tests
filter-same : {X : Type 0} (p q : X → Bool) → ((x : X) → p x ≡ q x) → (xs : List X) → filter p xs ≡ filter q xs
filter-same p q h [] = refl
filter-same p q h (x ∷ xs) = rw (h x) (ap (λ r. cond (q x) (x ∷ r) r) (filter-same p q h xs))

-- .. by tests that are equal on the list
filter-alike : {X : Type 0} (p q : X → Bool) (xs : List X) → AllByRecursion (λ x. p x ≡ q x) xs →
    filter p xs ≡ filter q xs
filter-alike p q [] h = refl
filter-alike p q (x ∷ xs) h = rw h.0 (ap (λ r. cond (q x) (x ∷ r) r) (filter-alike p q xs h.1))

-- a filter that keeps all
filter-all : {X : Type 0} (xs : List X) → filter (λ _. true) xs ≡ xs
filter-all [] = refl
filter-all (x ∷ xs) = ap (λ r. x ∷ r) (filter-all xs)

-- one filter after the other
filter-twice : {X : Type 0} (p q : X → Bool) (xs : List X) →
    filter (λ x. not (q x)) (filter (λ x. not (p x)) xs) ≡ filter (λ x. not (p x || q x)) xs
filter-twice p q [] = refl
filter-twice p q (x ∷ xs) = by (p x) refl (filter-twice p q xs)
  where
    by : (b : Bool) → p x ≡ b → filter (λ x. not (q x)) (filter (λ x. not (p x)) xs)
        ≡ filter (λ x. not (p x || q x)) xs → filter (λ x. not (q x)) (filter (λ x. not (p x)) (x ∷ xs))
        ≡ filter (λ x. not (p x || q x)) (x ∷ xs)
    by true h more = rw h more
    by false h more = rw h (ap (λ r. cond (not (q x)) (x ∷ r) r) more)

-- what some element of a filtered list passes, some element of the list passes
any-filter : {X : Type 0} (t p : X → Bool) (xs : List X) → list_any t (filter p xs) ≡ true →
    list_any t xs ≡ true
any-filter t p [] h = h
any-filter t p (x ∷ xs) h = by (p x) h (any-filter t p xs)
  where
    by : (b : Bool) → list_any t (cond b (x ∷ filter p xs) (filter p xs)) ≡ true →
        (list_any t (filter p xs) ≡ true → list_any t xs ≡ true) → (t x || list_any t xs) ≡ true
    by false h more = or_right (t x) (list_any t xs) (more h)
    by true h more = at (t x) h
      where
        at : (s : Bool) → (s || list_any t (filter p xs)) ≡ true → (s || list_any t xs) ≡ true
        at true k = refl
        at false k = more k

-- what holds of each holds of each that is left
pub each-filter : {X : Type 0} (P : X → Type 0) (p : X → Bool) (xs : List X) → AllByRecursion P xs →
    AllByRecursion P (filter p xs)
each-filter P p [] a = a
each-filter P p (x ∷ xs) a = by (p x) (each-filter P p xs a.1)
  where
    by : (b : Bool) → AllByRecursion P (filter p xs) → AllByRecursion P (cond b (x ∷ filter p xs) (filter p xs))
    by true h = (a.0, h)
    by false h = h

-- what holds of each that fails a test holds of each that is left without those that pass it
each-left : (P : PathValue × Found → Type 0) (t : PathValue → Bool) (es : ListingValue) →
    AllByRecursion (λ e. t e.0 ≡ false → P e) es → AllByRecursion P (filter (λ e. not (t e.0)) es)
each-left P t [] a = tt
each-left P t (e ∷ es) a = by (t e.0) refl (each-left P t es a.1)
  where
    by : (b : Bool) → t e.0 ≡ b → AllByRecursion P (filter (λ e. not (t e.0)) es) →
        AllByRecursion P (filter (λ e. not (t e.0)) (e ∷ es))
    by true h more = rw h more
    by false h more = rw h (a.0 h, more)

-- what holds of each path of entries holds of each path
each-key : (P : PathValue → Type 0) (es : ListingValue) → AllByRecursion (λ e. P e.0) es →
    AllByRecursion P (keys_of es)
each-key P [] a = tt
each-key P (e ∷ es) a = (a.0, each-key P es a.1)

-- a test that all paths pass
pub each-passes : (t : PathValue → Bool) (es : ListingValue) → list_all t (keys_of es) ≡ true →
    AllByRecursion (λ e. t e.0 ≡ true) es
each-passes t [] h = tt
each-passes t (e ∷ es) h = let b = and_both (t e.0) (list_all t (keys_of es)) h in (b.0, each-passes t es b.1)

-- what is left fails the test
left-fails : (t : PathValue → Bool) (es : ListingValue) →
    AllByRecursion (λ e. t e.0 ≡ false) (filter (λ e. not (t e.0)) es)
left-fails t es = each-left (λ e. t e.0 ≡ false) t es (all es)
  where
    all : (fs : ListingValue) → AllByRecursion (λ e. t e.0 ≡ false → t e.0 ≡ false) fs
    all [] = tt
    all (f ∷ fs) = (λ h. h, all fs)

-- where all paths are above x, x is not there
has-above : (x : PathValue) (ks : Paths) → AreAbove x ks → has_path ks x ≡ false
has-above x [] a = refl
has-above x (k ∷ ks) a = rw a.0 (has-above x ks a.1)

-- each path of a listing is there
pub each-there : (es : ListingValue) → AllByRecursion (λ e. has_path (keys_of es) e.0 ≡ true) es
each-there [] = tt
each-there (e ∷ es) = (rw (at_itself e.0) refl, later es (each-there es))
  where
    later : (fs : ListingValue) → AllByRecursion (λ f. has_path (keys_of es) f.0 ≡ true) fs →
        AllByRecursion (λ f. has_path (e.0 ∷ keys_of es) f.0 ≡ true) fs
    later [] a = tt
    later (f ∷ fs) a = (or_right (is_at (path_cmp f.0) e.0) (has_path (keys_of es) f.0) a.0, later fs a.1)

-- to play some events, and then others
play-append : (paths : Paths) (xs ys : List EventValue) → play paths (xs ++ ys) ≡ play (play paths xs) ys
play-append paths [] ys = refl
play-append paths (x ∷ xs) ys = play-append (play_one paths x) xs ys

-- honest events, and then others that are honest behind them
honest-append : (paths : Paths) (xs ys : List EventValue) → are_honest paths xs ≡ true →
    are_honest (play paths xs) ys ≡ true → are_honest paths (xs ++ ys) ≡ true
honest-append paths [] ys h k = k
honest-append paths (x ∷ xs) ys h k =
    let b = and_both (is_honest_event paths x) (are_honest (play_one paths x) xs) h in
    rw b.0 (honest-append (play_one paths x) xs ys b.1 k)

-- an event at a path that is not empty is honest where its kind is
honest-event : (paths : Paths) (kind : EventKind) (path : PathValue) → is_nonempty path ≡ true →
    is_honest_event paths (event_at kind path) ≡ is_honest_at paths kind path
honest-event paths kind [] h = absurd (true≢false (sym h))
honest-event paths kind (x ∷ xs) h = refl

-- a removal takes away
play-removal : (paths : Paths) (e : PathValue × Found) → play_one paths (removal e) ≡ without_at paths e.0
play-removal paths e = by e.1.kind
  where
    by : (k : EntryKind) → play_one paths (event_at (removal_of k) e.0) ≡ without_at paths e.0
    by File = refl
    by Folder = refl
    by Other = refl

-- a removal is honest where its path is there
honest-removal : (paths : Paths) (e : PathValue × Found) → is_nonempty e.0 ≡ true →
    is_honest_event paths (removal e) ≡ has_path paths e.0
honest-removal paths e h = honest-event paths (removal_of e.1.kind) e.0 h ∙ by e.1.kind
  where
    by : (k : EntryKind) → is_honest_at paths (removal_of k) e.0 ≡ has_path paths e.0
    by File = refl
    by Folder = refl
    by Other = refl

-- removals leave what lies in none of them
play-removals : (paths : Paths) (es : ListingValue) → play paths (map removal es)
    ≡ filter (λ p. not (lies_in es p)) paths
play-removals paths [] = sym (filter-all paths)
play-removals paths (e ∷ es) =
    ap (λ ps. play ps (map removal es)) (play-removal paths e)
    ∙ (play-removals (without_at paths e.0) es ∙ filter-twice (λ p. is_prefix e.0 p) (λ p. lies_in es p) paths)

-- none of these paths is a prefix of a later one
abbrev AreApart : ListingValue → Type 0
AreApart [] = Unit {0}
AreApart (e ∷ es) = AllByRecursion (λ f. is_prefix e.0 f.0 ≡ false) es × AreApart es

-- removals apart from each other are honest
honest-removals : (paths : Paths) (es : ListingValue) → AllByRecursion (λ e. is_nonempty e.0 ≡ true) es →
    AllByRecursion (λ e. has_path paths e.0 ≡ true) es → AreApart es → are_honest paths (map removal es) ≡ true
honest-removals paths [] n h a = refl
honest-removals paths (e ∷ es) n h a =
    let first : is_honest_event paths (removal e) ≡ true = honest-removal paths e n.0 ∙ h.0 in
    let rest : are_honest (without_at paths e.0) (map removal es) ≡ true =
    honest-removals (without_at paths e.0) es n.1 (later es h.1 a.0) a.1 in
    rw (first, play-removal paths e) rest
  where
    later : (fs : ListingValue) → AllByRecursion (λ f. has_path paths f.0 ≡ true) fs →
        AllByRecursion (λ f. is_prefix e.0 f.0 ≡ false) fs →
        AllByRecursion (λ f. has_path (without_at paths e.0) f.0 ≡ true) fs
    later [] h a = tt
    later (f ∷ fs) h a =
        (has-filter (λ p. not (is_prefix e.0 p)) f.0 paths ∙ rw (a.0, h.0) refl, later fs h.1 a.1)

-- entries below none of some entries that they are among are apart
apart : (all es : ListingValue) → IsStrictlySortedBy path_cmp (keys_of es) →
    AllByRecursion (λ f. lies_below all f.0 ≡ false) es →
    ((q : PathValue) → lies_below es q ≡ true → lies_below all q ≡ true) → AreApart es
unfolding IsStrictlySortedBy
apart all [] s a m = tt
apart all (e ∷ es) s a m =
    (later es s.0 a.1, apart all es s.1 a.1 (λ q h. m q (or_right (is_below q e.0) (lies_below es q) h)))
  where
    later : (fs : ListingValue) → AreAbove e.0 (keys_of fs) →
        AllByRecursion (λ f. lies_below all f.0 ≡ false) fs → AllByRecursion (λ f. is_prefix e.0 f.0 ≡ false) fs
    later [] b a = tt
    later (f ∷ fs) b a = (at (is_prefix e.0 f.0) refl, later fs b.1 a.1)
      where
        at : (t : Bool) → is_prefix e.0 f.0 ≡ t → t ≡ false
        at false h = refl
        at true h =
            let under : is_below f.0 e.0 ≡ true = below_behind e.0 f.0 b.0 ∙ h in
            let hit : lies_below (e ∷ es) f.0 ≡ true = rw under refl in
            absurd (true≢false (sym (m f.0 hit) ∙ a.0))

-- what lies in one of the entries lies in one that is below none
in-tops : (all : ListingValue) (p : PathValue) (es : ListingValue) → IsStrictlySortedBy path_cmp (keys_of es) →
    ((q : PathValue) → is_prefix q p ≡ true → lies_below all q ≡ lies_below es q) → lies_in es p ≡ true →
    lies_in (filter (λ e. not (lies_below all e.0)) es) p ≡ true
unfolding IsStrictlySortedBy
in-tops all p [] s m h = h
in-tops all p (e ∷ es) s m h = by (is_prefix e.0 p) refl (in-tops all p es s.1)
  where
    none : (fs : ListingValue) → AreAbove e.0 (keys_of fs) → lies_below fs e.0 ≡ false
    none [] a = refl
    none (f ∷ fs) a = rw (not_below_behind e.0 f.0 a.0) (none fs a.1)

    by : (b : Bool) → is_prefix e.0 p ≡ b →
        (((q : PathValue) → is_prefix q p ≡ true → lies_below all q ≡ lies_below es q) → lies_in es p ≡ true →
        lies_in (filter (λ e. not (lies_below all e.0)) es) p ≡ true) →
        lies_in (filter (λ e. not (lies_below all e.0)) (e ∷ es)) p ≡ true
    by true k more =
        let top : lies_below all e.0 ≡ false = m e.0 k ∙ rw (not_below_itself e.0) (none es s.0) in
        rw (top, k) refl
    by false k more = at (lies_below all e.0)
      where
        -- a prefix of p that lies below e would make e one
        later : (q : PathValue) → is_prefix q p ≡ true → lies_below all q ≡ lies_below es q
        later q i = under (is_below q e.0) refl
          where
            under : (t : Bool) → is_below q e.0 ≡ t → lies_below all q ≡ lies_below es q
            under false j = m q i ∙ rw j refl
            under true j =
                absurd (true≢false
                (sym (prefix-trans e.0 q p (and_both (is_prefix e.0 q) (not (path_eq q e.0)) j).0 i) ∙ k))

        rest : lies_in (filter (λ e. not (lies_below all e.0)) es) p ≡ true
        rest = more later (rw k at h)

        at : (t : Bool) →
            lies_in (cond (not t) (e ∷ filter (λ e. not (lies_below all e.0)) es)
            (filter (λ e. not (lies_below all e.0)) es)) p ≡ true
        at true = rest
        at false = or_right (is_prefix e.0 p) (lies_in (filter (λ e. not (lies_below all e.0)) es) p) rest

-- a path lies in what is gone where it lies in what is removed
in-removed : (all : ListingValue) → IsStrictlySortedBy path_cmp (keys_of all) → (p : PathValue) →
    lies_in (filter (λ e. not (lies_below all e.0)) all) p ≡ lies_in all p
in-removed all s p = by (lies_in all p) refl (lies_in (filter (λ e. not (lies_below all e.0)) all) p) refl
  where
    by : (b : Bool) → lies_in all p ≡ b → (c : Bool) → lies_in (filter (λ e. not (lies_below all e.0)) all) p
        ≡ c → c ≡ b
    by true h c k = sym k ∙ in-tops all p all s (λ q i. refl) h
    by false h false k = refl
    by false h true k =
        absurd (true≢false (sym (any-filter (λ e. is_prefix e.0 p) (λ e. not (lies_below all e.0)) all k) ∙ h))

-- of paths that are there, those that are above the first one are there behind it
there-later : (y : PathValue) (ys xs : Paths) → AreAbove y xs →
    AllByRecursion (λ x. has_path (y ∷ ys) x ≡ true) xs → AllByRecursion (λ x. has_path ys x ≡ true) xs
there-later y ys [] a h = tt
there-later y ys (x ∷ xs) a h = (rw (turned_less y x a.0) at h.0, there-later y ys xs a.1 h.1)

-- ascending paths among others are those of the others that are among them
among : (ys xs : Paths) → IsStrictlySortedBy path_cmp xs → IsStrictlySortedBy path_cmp ys →
    AllByRecursion (λ x. has_path ys x ≡ true) xs → xs ≡ filter (has_path xs) ys
unfolding IsStrictlySortedBy
among [] [] s t h = refl
among [] (x ∷ xs) s t h = absurd (true≢false (sym h.0))
among (y ∷ ys) [] s t h = among ys [] s t.1 tt
among (y ∷ ys) (x ∷ xs) s t h = by (path_cmp x y) refl (λ zs u k. among ys zs u t.1 k)
  where
    -- behind y, x no longer counts where it is y
    skip : (zs : Paths) → AreAbove x zs → AllByRecursion (λ z. has_path xs z ≡ has_path (x ∷ xs) z) zs
    skip [] a = tt
    skip (z ∷ zs) a = (rw (turned_less x z a.0) refl, skip zs a.1)

    by : (o : Ordering) → path_cmp x y ≡ o → ((zs : Paths) → IsStrictlySortedBy path_cmp zs →
        AllByRecursion (λ z. has_path ys z ≡ true) zs → zs ≡ filter (has_path zs) ys) →
        x ∷ xs ≡ filter (has_path (x ∷ xs)) (y ∷ ys)
    by Less q more =
        let none : has_path (y ∷ ys) x ≡ false = rw q (has-above x ys (above-trans x y q ys t.0)) in
        absurd (true≢false (sym h.0 ∙ none))
    by Greater q more =
        let less : path_cmp y x ≡ Less = turned x y q in
        let above : AreAbove y (x ∷ xs) = (less, above-trans y x less xs s.0) in
        let none : has_path (x ∷ xs) y ≡ false = has-above y (x ∷ xs) above in
        rw none (more (x ∷ xs) s (there-later y ys (x ∷ xs) above h))
    by Equal q more =
        let same : x ≡ y = same_path x y q in
        let above : AreAbove y xs = subst (λ z. AreAbove z xs) same s.0 in
        let behind : AreAbove x ys = subst (λ z. AreAbove z ys) (sym same) t.0 in
        let here : has_path (x ∷ xs) y ≡ true =
        subst (λ z. has_path (x ∷ xs) z ≡ true) same (rw (at_itself x) refl) in
        let rest : xs ≡ filter (has_path (x ∷ xs)) ys = more xs s.1 (there-later y ys xs above h.1)
        ∙ filter-alike (has_path xs) (has_path (x ∷ xs)) ys (skip ys behind) in
        rw here (ap (λ z. z ∷ xs) same ∙ ap (λ r. y ∷ r) rest)

-- something of a kind is something
of_kind-some : (k : EntryKind) (o : Option Found) → is_of_kind k o ≡ true → is_some o ≡ true
of_kind-some k None h = h
of_kind-some k (Some f) h = refl

module _ (old new : ListingValue) where
  -- old entries that lie in nothing that is gone are there
  stays-there : (es : ListingValue) → ((q : PathValue) → lies_in (gone es new) q ≡ true →
      lies_in (gone old new) q ≡ true) → AllByRecursion (λ e. lies_in (gone old new) e.0 ≡ false →
      has_path (keys_of new) e.0 ≡ true) es
  stays-there [] m = tt
  stays-there (e ∷ es) m = (first (is_kept new e) refl, stays-there es (λ q h. m q (later q h)))
    where
      later : (q : PathValue) → lies_in (gone es new) q ≡ true → lies_in (gone (e ∷ es) new) q ≡ true
      later q h = at (is_kept new e)
        where
          at : (b : Bool) → lies_in (cond (not b) (e ∷ gone es new) (gone es new)) q ≡ true
          at true = h
          at false = or_right (is_prefix e.0 q) (lies_in (gone es new) q) h

      first : (b : Bool) → is_kept new e ≡ b → lies_in (gone old new) e.0 ≡ false → has_path (keys_of new) e.0
          ≡ true
      first true k h = has_entry-some new e.0 ∙ of_kind-some e.1.kind (entry_at new e.0) k
      first false k h =
          let hit : lies_in (gone (e ∷ es) new) e.0 ≡ true = rw (k, prefix_itself e.0) refl in
          absurd (true≢false (sym (m e.0 hit) ∙ h))

  -- the paths that stay
  abbrev stay_paths : Paths
  stay_paths = keys_of (staying old new)

  -- the paths that stay are those of the new ones that stay
  stay-among : IsStrictlySortedBy path_cmp (keys_of old) → IsStrictlySortedBy path_cmp (keys_of new) →
      stay_paths ≡ filter (has_path stay_paths) (keys_of new)
  stay-among s t =
      among (keys_of new) stay_paths (sorted-filter path_cmp_total (λ e. not (lies_in (gone old new) e.0)) old
      s) t
      (each-key (λ k. has_path (keys_of new) k ≡ true) (staying old new)
      (each-left (λ e. has_path (keys_of new) e.0 ≡ true) (lies_in (gone old new)) old
      (stays-there old (λ q h. h))))

-- a creation adds its path
play-creation : (paths : Paths) (e : PathValue × Found) → play_one paths (creation e) ≡ with_path paths e.0
play-creation paths e = by e.1.kind
  where
    by : (k : EntryKind) → play_one paths (event_at (creation_of k) e.0) ≡ with_path paths e.0
    by File = refl
    by Folder = refl
    by Other = refl

-- a creation is honest where its path is absent and its folders are there
honest-creation : (paths : Paths) (e : PathValue × Found) → is_nonempty e.0 ≡ true →
    is_honest_event paths (creation e) ≡ (not (has_path paths e.0) && has_folders paths e.0)
honest-creation paths e h = honest-event paths (creation_of e.1.kind) e.0 h ∙ by e.1.kind
  where
    by : (k : EntryKind) → is_honest_at paths (creation_of k) e.0
        ≡ (not (has_path paths e.0) && has_folders paths e.0)
    by File = refl
    by Folder = refl
    by Other = refl

-- the folders of a path stand in front of it
folders-front : (path : PathValue) → AllByRecursion (λ q. path_cmp q path ≡ Less) (folders_of path)
folders-front [] = tt
folders-front (x ∷ []) = tt
folders-front (x ∷ y ∷ path) = (rw tie refl, more (folders_of (y ∷ path)) (folders-front (y ∷ path)))
  where
    tie : part_cmp x x ≡ Equal
    tie = tied_itself part_cmp_total x

    more : (qs : List PathValue) → AllByRecursion (λ q. path_cmp q (y ∷ path) ≡ Less) qs →
        AllByRecursion (λ q. path_cmp q (x ∷ y ∷ path) ≡ Less) (map (λ q. x ∷ q) qs)
    more [] a = tt
    more (q ∷ qs) a = (rw tie a.0, more qs a.1)

-- these paths stand in front of x
abbrev AreFront : PathValue → Paths → Type 0
AreFront x ks = AllByRecursion (λ k. path_cmp k x ≡ Less) ks

-- a path between others goes between them
insert-between : (done later : Paths) (x : PathValue) → AreFront x done → AreAbove x later →
    with_path (done ++ later) x ≡ done ++ x ∷ later
insert-between [] [] x f a = refl
insert-between [] (k ∷ later) x f a = rw a.0 refl
insert-between (d ∷ done) later x f a =
    rw (turned_less d x f.0) (ap (λ r. d ∷ r) (insert-between done later x f.1 a))

-- paths in front of one that is in front of x are in front of x
front-trans : (x y : PathValue) → path_cmp x y ≡ Less → (ks : Paths) → AreFront x ks → AreFront y ks
front-trans x y q [] a = a
front-trans x y q (k ∷ ks) a = (path_cmp_total.trans k x y a.0 q, front-trans x y q ks a.1)

-- one more in front
front-push : (x y : PathValue) → path_cmp x y ≡ Less → (ks : Paths) → AreFront x ks → AreFront y (ks ++ x ∷ [])
front-push x y q [] a = (q, tt)
front-push x y q (k ∷ ks) a = (path_cmp_total.trans k x y a.0 q, front-push x y q ks a.1)

-- what stands in front of x is not x
has-front : (x : PathValue) (ks : Paths) → AreFront x ks → has_path ks x ≡ false
has-front x [] a = refl
has-front x (k ∷ ks) a = rw (turned_less k x a.0) (has-front x ks a.1)

-- paths that are left stay above x
above-left : (x : PathValue) (p : PathValue → Bool) (ks : Paths) → AreAbove x ks → AreAbove x (filter p ks)
above-left x p ks a = each-filter (λ k. path_cmp x k ≡ Less) p ks a

-- folders that are there, and in front of x, are there without what stands at x or behind it
folders-there : (x : PathValue) (done later others : Paths) (qs : List PathValue) → AreAbove x later →
    AreFront x qs → list_all (has_path (done ++ x ∷ later)) qs ≡ true → list_all (has_path (done ++ others)) qs
    ≡ true
folders-there x done later others [] a f h = refl
folders-there x done later others (q ∷ qs) a f h =
    let both = and_both (has_path (done ++ x ∷ later) q) (list_all (has_path (done ++ x ∷ later)) qs) h in
    let none : has_path (x ∷ later) q ≡ false = has-above q (x ∷ later) (f.0, above-trans q x f.0 later a) in
    let here : has_path done q ≡ true = sym (or_no (has_path done q))
    ∙ (ap (λ b. has_path done q || b) (sym none)
    ∙ (sym (list_any-append (is_at (path_cmp q)) done (x ∷ later)) ∙ both.0)) in
    let there : has_path (done ++ others) q ≡ true = list_any-append (is_at (path_cmp q)) done others
    ∙ rw here refl in
    rw there (folders-there x done later others qs a f.1 both.1)
  where
    or_no : (b : Bool) → (b || false) ≡ b
    or_no true = refl
    or_no false = refl

module _ (stay : Paths) where
  -- the new entries that did not stay
  abbrev fresh : ListingValue → ListingValue
  fresh ns = filter (λ e. not (has_path stay e.0)) ns

  -- the paths that are there before the creations of these entries
  abbrev before : Paths → ListingValue → Paths
  before done ns = done ++ filter (has_path stay) (keys_of ns)

  -- creations add the new paths between those that stay
  play-creations : (done : Paths) (ns : ListingValue) → AllByRecursion (λ e. AreFront e.0 done) ns →
      IsStrictlySortedBy path_cmp (keys_of ns) → play (before done ns) (map creation (fresh ns)) ≡ done
      ++ keys_of ns
  unfolding IsStrictlySortedBy
  play-creations done [] f s = refl
  play-creations done (n ∷ ns) f s =
      by (has_path stay n.0) (play-creations (done ++ n.0 ∷ []) ns (later ns f.0 s.0) s.1)
    where
      later : (ms : ListingValue) → AreFront n.0 done → AreAbove n.0 (keys_of ms) →
          AllByRecursion (λ e. AreFront e.0 (done ++ n.0 ∷ [])) ms
      later [] f a = tt
      later (m ∷ ms) f a = (front-push n.0 m.0 a.0 done f, later ms f a.1)

      -- the state once the path is there
      moved : (done ++ n.0 ∷ []) ++ filter (has_path stay) (keys_of ns) ≡ done
          ++ n.0 ∷ filter (has_path stay) (keys_of ns)
      moved = append_assoc done (n.0 ∷ []) (filter (has_path stay) (keys_of ns))

      end : (done ++ n.0 ∷ []) ++ keys_of ns ≡ done ++ n.0 ∷ keys_of ns
      end = append_assoc done (n.0 ∷ []) (keys_of ns)

      by : (b : Bool) → play (before (done ++ n.0 ∷ []) ns) (map creation (fresh ns)) ≡ (done ++ n.0 ∷ [])
          ++ keys_of ns →
          play (done ++ cond b (n.0 ∷ filter (has_path stay) (keys_of ns))
          (filter (has_path stay) (keys_of ns))) (map creation (cond (not b) (n ∷ fresh ns) (fresh ns))) ≡ done
          ++ n.0 ∷ keys_of ns
      by true more = ap (λ ps. play ps (map creation (fresh ns))) (sym moved) ∙ (more ∙ end)
      by false more =
          ap (λ ps. play ps (map creation (fresh ns)))
          (play-creation (done ++ filter (has_path stay) (keys_of ns)) n
          ∙ (insert-between done (filter (has_path stay) (keys_of ns)) n.0 f.0
          (above-left n.0 (has_path stay) (keys_of ns) s.0) ∙ sym moved))
          ∙ (more ∙ end)

  -- these creations are honest, where each new path has its folders among the new paths
  honest-creations : (all done : Paths) (ns : ListingValue) → done ++ keys_of ns ≡ all →
      AllByRecursion (λ e. is_nonempty e.0 ≡ true) ns → AllByRecursion (λ e. has_folders all e.0 ≡ true) ns →
      AllByRecursion (λ e. AreFront e.0 done) ns → IsStrictlySortedBy path_cmp (keys_of ns) →
      are_honest (before done ns) (map creation (fresh ns)) ≡ true
  unfolding IsStrictlySortedBy
  honest-creations all done [] w e c f s = refl
  honest-creations all done (n ∷ ns) w e c f s =
      by (has_path stay n.0)
      (honest-creations all (done ++ n.0 ∷ []) ns (append_assoc done (n.0 ∷ []) (keys_of ns)
      ∙ w) e.1 c.1 (later ns f.0 s.0) s.1)
    where
      later : (ms : ListingValue) → AreFront n.0 done → AreAbove n.0 (keys_of ms) →
          AllByRecursion (λ e. AreFront e.0 (done ++ n.0 ∷ [])) ms
      later [] f a = tt
      later (m ∷ ms) f a = (front-push n.0 m.0 a.0 done f, later ms f a.1)

      others : Paths
      others = filter (has_path stay) (keys_of ns)

      moved : (done ++ n.0 ∷ []) ++ filter (has_path stay) (keys_of ns) ≡ done
          ++ n.0 ∷ filter (has_path stay) (keys_of ns)
      moved = append_assoc done (n.0 ∷ []) (filter (has_path stay) (keys_of ns))

      by : (b : Bool) → are_honest (before (done ++ n.0 ∷ []) ns) (map creation (fresh ns)) ≡ true →
          are_honest (done
          ++ cond b (n.0 ∷ filter (has_path stay) (keys_of ns)) (filter (has_path stay) (keys_of ns)))
          (map creation (cond (not b) (n ∷ fresh ns) (fresh ns))) ≡ true
      by true more = ap (λ ps. are_honest ps (map creation (fresh ns))) (sym moved) ∙ more
      by false more =
          let above : AreAbove n.0 (filter (has_path stay) (keys_of ns)) =
          above-left n.0 (has_path stay) (keys_of ns) s.0 in
          let absent : has_path (done ++ filter (has_path stay) (keys_of ns)) n.0 ≡ false =
          list_any-append (is_at (path_cmp n.0)) done (filter (has_path stay) (keys_of ns))
          ∙ rw (has-front n.0 done f.0, has-above n.0 (filter (has_path stay) (keys_of ns)) above) refl in
          let folders : has_folders (done ++ filter (has_path stay) (keys_of ns)) n.0 ≡ true =
          folders-there n.0 done (keys_of ns) (filter (has_path stay) (keys_of ns)) (folders_of n.0) s.0
          (folders-front n.0) (subst (λ ks. has_folders ks n.0 ≡ true) (sym w) c.0) in
          let first : is_honest_event (done ++ filter (has_path stay) (keys_of ns)) (creation n) ≡ true =
          honest-creation (done ++ filter (has_path stay) (keys_of ns)) n e.0 ∙ rw (absent, folders) refl in
          let played : play_one (done ++ filter (has_path stay) (keys_of ns)) (creation n)
          ≡ before (done ++ n.0 ∷ []) ns =
          play-creation (done ++ filter (has_path stay) (keys_of ns)) n
          ∙ (insert-between done (filter (has_path stay) (keys_of ns)) n.0 f.0 above ∙ sym moved) in
          rw (first, played) more

-- another length adds and takes no path
play-rewrites : (paths : Paths) (es : ListingValue) → play paths (map rewrite es) ≡ paths
play-rewrites paths [] = refl
play-rewrites paths (e ∷ es) = play-rewrites paths es

-- other lengths are honest
honest-rewrites : (paths : Paths) (es : ListingValue) → AllByRecursion (λ e. is_nonempty e.0 ≡ true) es →
    are_honest paths (map rewrite es) ≡ true
honest-rewrites paths [] n = refl
honest-rewrites paths (e ∷ es) n = rw (honest-event paths (rewrite e).kind e.0 n.0) (honest-rewrites paths es n.1)

-- nothing stands in front of the first entry
front-none : (ns : ListingValue) → AllByRecursion (λ e. AreFront e.0 []) ns
front-none [] = tt
front-none (n ∷ ns) = (tt, front-none ns)

module _ (old new : ListingValue) where
  -- the removals leave what stays
  removals-leave : IsStrictlySortedBy path_cmp (keys_of old) →
      play (keys_of old) (map removal (removed old new)) ≡ keys_of (staying old new)
  removals-leave s =
      play-removals (keys_of old) (removed old new)
      ∙ (filter-same (λ p. not (lies_in (removed old new) p)) (λ p. not (lies_in (gone old new) p))
      (λ p. ap not
      (in-removed (gone old new) (sorted-filter path_cmp_total (λ e. not (is_kept new e)) old s) p))
      (keys_of old)
      ∙ sym (keys_of-filter (λ p. not (lies_in (gone old new) p)) old))

  -- the changes between two listings lead from the old paths to the new ones
  pub changes_lead : IsListing old → IsListing new → LeadsTo (keys_of old) (keys_of new) (changes old new)
  changes_lead o n =
      let all = gone old new in
      let stay = keys_of (staying old new) in
      let named = each-passes is_nonempty old o.nonempty in
      let kept = each-filter (λ e. is_nonempty e.0 ≡ true) (λ e. not (is_kept new e)) old named in
      let sorted_gone = sorted-filter path_cmp_total (λ e. not (is_kept new e)) old o.ordered in
      let there : AllByRecursion (λ e. has_path (keys_of old) e.0 ≡ true) (removed old new) =
      each-filter (λ e. has_path (keys_of old) e.0 ≡ true) (λ e. not (lies_below (gone old new) e.0))
      (gone old new) (each-filter (λ e. has_path (keys_of old) e.0 ≡ true) (λ e. not (is_kept new e)) old
      (each-there old)) in
      let first : are_honest (keys_of old) (map removal (removed old new)) ≡ true =
      honest-removals (keys_of old) (removed old new)
      (each-filter (λ e. is_nonempty e.0 ≡ true) (λ e. not (lies_below (gone old new) e.0)) (gone old new)
      kept) there
      (apart (gone old new) (removed old new)
      (sorted-filter path_cmp_total (λ e. not (lies_below (gone old new) e.0)) (gone old new) sorted_gone)
      (left-fails (lies_below (gone old new)) (gone old new))
      (λ q h. any-filter (λ e. is_below q e.0) (λ e. not (lies_below (gone old new) e.0)) (gone old new)
      h)) in
      let left = removals-leave o.ordered in
      let among_new = stay-among old new o.ordered n.ordered in
      let second : are_honest (keys_of (staying old new)) (map creation (created old new)) ≡ true =
      subst (λ ps. are_honest ps (map creation (created old new)) ≡ true) (sym among_new)
      (honest-creations (keys_of (staying old new)) (keys_of new) [] new refl
      (each-passes is_nonempty new n.nonempty) (each-passes (has_folders (keys_of new)) new n.closed)
      (front-none new) n.ordered) in
      let added : play (keys_of (staying old new)) (map creation (created old new)) ≡ keys_of new =
      ap (λ ps. play ps (map creation (created old new))) among_new
      ∙ play-creations (keys_of (staying old new)) [] new (front-none new) n.ordered in
      let third : are_honest (keys_of new) (map rewrite (rewritten old new)) ≡ true =
      honest-rewrites (keys_of new) (rewritten old new)
      (each-filter (λ e. is_nonempty e.0 ≡ true) (λ e. is_rewritten e.1 (entry_at new e.0))
      (staying old new) (each-filter (λ e. is_nonempty e.0 ≡ true) (λ e. not (lies_in (gone old new) e.0))
      old named)) in
      record {
        closed = o.closed;
        honest = honest-append (keys_of old) (map removal (removed old new)) (map creation (created old new)
            ++ map rewrite (rewritten old new)) first
            (rw left (honest-append (keys_of (staying old new)) (map creation (created old new))
            (map rewrite (rewritten old new)) second (rw added third)));
        played = play-append (keys_of old) (map removal (removed old new)) (map creation (created old new)
            ++ map rewrite (rewritten old new))
            ∙ rw left (play-append (keys_of (staying old new)) (map creation (created old new))
            (map rewrite (rewritten old new)) ∙ rw added (play-rewrites (keys_of new) (rewritten old new)));
      }
