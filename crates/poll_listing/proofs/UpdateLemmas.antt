-- Updates of a listing, one after the other. The calls that update a listing in place cite these.
use Rattle.std.proofs.Common.{◌≡◌, Bool, true, false, not, List, [], ◌∷◌, refl, ap, sym, ◌∙◌, Some, None, true≢false}
use Rattle.std.specs.Prelude.{Option, is_some, if◌then◌else◌}
use Rattle.std.specs.Option.{option_map}
use Rattle.std.specs.List.{AllByRecursion}
use Rattle.std.specs.List.Sorted.{IsStrictlySortedBy}
use Rattle.std.specs.Map.{keys_of, remove_entry, set_value}
use Rattle.std.specs.BTreeMap.{insert_entry, is_at}
use Rattle.std.proofs.lemmas.Map.{keys-set_value}
use Rattle.notify_paths.specs.Path.{PathValue, path_cmp}
use Rattle.notify_paths.specs.PathLaws.{path_cmp_total}
use Rattle.notify_paths.proofs.Prefixes.{same_path}
use Rattle.debounce_model.proofs.Entries.{insert_over, lookup-remove_other, lookup-remove_same, same_entries, sorted-insert_entry, sorted-remove_entry}
use Rattle.poll_listing.specs.declared.entry.Found.{Found}
use Rattle.poll_listing.specs.declared.updates.Update.{Update}
use Rattle.poll_listing.specs.declared.updates.Update.TheVariants.{Gone, Changed, Added}
use Rattle.poll_listing.specs.Listing.{ListingValue, IsListing, entry_at}
use Rattle.poll_listing.specs.Updates.{DifferInAdded, IsUpdate, UpdatesValue, added_at, after, after_each, changed_at, dropped_at, fits_at, found_after, is_added, update_at, updated, updated_at}
use Rattle.poll_listing.proofs.PairLemmas.{AreAbove, at_itself, turned_less}
use Rattle.poll_listing.proofs.BehindLemmas.{at-same}
use Rattle.poll_listing.proofs.WalkLemmas.{has_entry-some}
use Rattle.poll_listing.proofs.ListingLemmas.{entry_at-insert}

-- the paths ascend
abbrev pub Ascends : {X : Type 0} → List (PathValue × X) → Type 0
Ascends es = IsStrictlySortedBy path_cmp (keys_of es)

-- where all paths are above x, nothing becomes of x
pub update_at-above : (x : PathValue) (us : UpdatesValue) → AreAbove x (keys_of us) → update_at us x ≡ None
update_at-above x [] a = refl
update_at-above x (u ∷ us) a = rw a.0 (update_at-above x us a.1)

-- each update is what a look-up at its path finds
pub updates-found : (us : UpdatesValue) → Ascends us → AllByRecursion (λ u. update_at us u.0 ≡ Some u.1) us
unfolding IsStrictlySortedBy
updates-found [] s = tt
updates-found (u ∷ us) s = (rw (at_itself u.0) refl, past us s.0 (updates-found us s.1))
  where
    past : (xs : UpdatesValue) → AreAbove u.0 (keys_of xs) →
        AllByRecursion (λ x. update_at us x.0 ≡ Some x.1) xs →
        AllByRecursion (λ x. update_at (u ∷ us) x.0 ≡ Some x.1) xs
    past [] a h = tt
    past (x ∷ xs) a h = (rw (turned_less u.0 x.0 a.0) h.0, past xs a.1 h.1)

-- nothing stands where something was taken out, and elsewhere what was there
pub remove-finds : (es : ListingValue) (p q : PathValue) (b : Bool) → Ascends es → is_at (path_cmp q) p ≡ b →
    entry_at (remove_entry (is_at (path_cmp p)) es) q ≡ (if b then None else entry_at es q)
remove-finds es p q true s h = let same : q ≡ p = at-same q p h in
    rw same (lookup-remove_same path_cmp_total es p s)
remove-finds es p q false s h = lookup-remove_other path_cmp_total es p q h

-- nothing is set where nothing is
pub set-absent : (es : ListingValue) (p : PathValue) (f : Found) → entry_at es p ≡ None →
    set_value (is_at (path_cmp p)) es f ≡ es
set-absent [] p f h = refl
set-absent (e ∷ es) p f h = by (is_at (path_cmp p) e.0) refl (set-absent es p f)
  where
    by : (b : Bool) → is_at (path_cmp p) e.0 ≡ b →
        (entry_at es p ≡ None → set_value (is_at (path_cmp p)) es f ≡ es) →
        set_value (is_at (path_cmp p)) (e ∷ es) f ≡ e ∷ es
    by true k more = let no : Some e.1 ≡ None = rw k at h in cc
    by false k more = rw k (ap (λ r. e ∷ r) (more (rw k at h)))

-- what is set is found where something was, and elsewhere what was there
set-finds : (es : ListingValue) (p q : PathValue) (f : Found) (b : Bool) → Ascends es →
    is_at (path_cmp q) p ≡ b → entry_at (set_value (is_at (path_cmp p)) es f) q
    ≡ (if b then option_map (λ _. f) (entry_at es q) else entry_at es q)
set-finds es p q f b s h = by (entry_at es p) refl b h
  where
    by : (o : Option Found) → entry_at es p ≡ o → (b : Bool) → is_at (path_cmp q) p ≡ b →
        entry_at (set_value (is_at (path_cmp p)) es f) q
        ≡ (if b then option_map (λ _. f) (entry_at es q) else entry_at es q)
    by (Some v) k true h =
        ap (λ xs. entry_at xs q) (sym (insert_over path_cmp_total es p v f s k))
        ∙ (entry_at-insert es p q f true h
        ∙ sym (ap (option_map (λ _. f)) (ap (entry_at es) (at-same q p h) ∙ k)))
    by (Some v) k false h =
        ap (λ xs. entry_at xs q) (sym (insert_over path_cmp_total es p v f s k)) ∙ entry_at-insert es p q f false h
    by None k true h =
        let none : entry_at es q ≡ None = ap (entry_at es) (at-same q p h) ∙ k in
        ap (λ xs. entry_at xs q) (set-absent es p f k) ∙ (none ∙ sym (ap (option_map (λ _. f)) none))
    by None k false h = ap (λ xs. entry_at xs q) (set-absent es p f k)

-- what an update says stands there, or else what stood there
abbrev pub said : (Update → Option Found → Option Found) → Option Update → Option Found → Option Found
said says None before = before
said says (Some update) before = says update before

-- a step leaves the paths in order, and changes what stands at one path, as is said of it
record IsStep (step : ListingValue → PathValue × Update → ListingValue) (says : Update → Option Found →
    Option Found) : Type 0 where
  sorted : (es : ListingValue) (u : PathValue × Update) → Ascends es → Ascends (step es u)
  finds : (es : ListingValue) (u : PathValue × Update) (q : PathValue) (b : Bool) → Ascends es →
      is_at (path_cmp q) u.0 ≡ b → entry_at (step es u) q
      ≡ (if b then says u.1 (entry_at es q) else entry_at es q)

module _ (step : ListingValue → PathValue × Update → ListingValue)
    (says : Update → Option Found → Option Found) (is : IsStep step says) where
  -- after all steps the paths are in order
  each-sorted : (us : UpdatesValue) (es : ListingValue) → Ascends es → Ascends (after_each step es us)
  each-sorted [] es s = s
  each-sorted (u ∷ us) es s = each-sorted us (step es u) (is.sorted es u s)

  -- after all steps there is what they say
  each-finds : (us : UpdatesValue) (es : ListingValue) → Ascends us → Ascends es → (q : PathValue) →
      entry_at (after_each step es us) q ≡ said says (update_at us q) (entry_at es q)
  unfolding IsStrictlySortedBy
  each-finds [] es t s q = refl
  each-finds (u ∷ us) es t s q = each-finds us (step es u) t.1 (is.sorted es u s) q
      ∙ by (is_at (path_cmp q) u.0) refl
    where
      by : (b : Bool) → is_at (path_cmp q) u.0 ≡ b → said says (update_at us q) (entry_at (step es u) q)
          ≡ said says (update_at (u ∷ us) q) (entry_at es q)
      by true h =
          let none : update_at us q ≡ None = ap (update_at us) (at-same q u.0 h) ∙ update_at-above u.0 us t.0 in
          rw (none, h) (is.finds es u q true s h)
      by false h = rw h (ap (said says (update_at us q)) (is.finds es u q false s h))

-- where nothing is done, there is what was there
unchanged_at : (o : Option Found) (b : Bool) → o ≡ (if b then o else o)
unchanged_at o true = refl
unchanged_at o false = refl

-- what an update says
abbrev updates_say : Update → Option Found → Option Found
updates_say u o = found_after u

-- what an update says that adds nothing
abbrev changes_say : Update → Option Found → Option Found
changes_say Gone o = None
changes_say (Changed f) o = option_map (λ _. f) o
changes_say (Added f) o = o

-- what an update says that adds something
abbrev additions_say : Update → Option Found → Option Found
additions_say Gone o = o
additions_say (Changed f) o = o
additions_say (Added f) o = Some f

-- what is left without what an update adds
abbrev drops_say : Update → Option Found → Option Found
drops_say Gone o = o
drops_say (Changed f) o = o
drops_say (Added f) o = None

-- an update is a step
update_step : IsStep updated_at updates_say
update_step = record { sorted = sorted; finds = finds }
  where
    sorted : (es : ListingValue) (u : PathValue × Update) → Ascends es → Ascends (updated_at es u)
    sorted es (p, Gone) s = sorted-remove_entry path_cmp_total (is_at (path_cmp p)) es s
    sorted es (p, Changed f) s = sorted-insert_entry path_cmp_total es p f s
    sorted es (p, Added f) s = sorted-insert_entry path_cmp_total es p f s

    finds : (es : ListingValue) (u : PathValue × Update) (q : PathValue) (b : Bool) → Ascends es →
        is_at (path_cmp q) u.0 ≡ b → entry_at (updated_at es u) q
        ≡ (if b then found_after u.1 else entry_at es q)
    finds es (p, Gone) q b s h = remove-finds es p q b s h
    finds es (p, Changed f) q b s h = entry_at-insert es p q f b h
    finds es (p, Added f) q b s h = entry_at-insert es p q f b h

-- .. so is one that adds nothing
change_step : IsStep changed_at changes_say
change_step = record { sorted = sorted; finds = finds }
  where
    sorted : (es : ListingValue) (u : PathValue × Update) → Ascends es → Ascends (changed_at es u)
    sorted es (p, Gone) s = sorted-remove_entry path_cmp_total (is_at (path_cmp p)) es s
    sorted es (p, Changed f) s = rw (keys-set_value (is_at (path_cmp p)) es f) s
    sorted es (p, Added f) s = s

    finds : (es : ListingValue) (u : PathValue × Update) (q : PathValue) (b : Bool) → Ascends es →
        is_at (path_cmp q) u.0 ≡ b → entry_at (changed_at es u) q
        ≡ (if b then changes_say u.1 (entry_at es q) else entry_at es q)
    finds es (p, Gone) q b s h = remove-finds es p q b s h
    finds es (p, Changed f) q b s h = set-finds es p q f b s h
    finds es (p, Added f) q b s h = unchanged_at (entry_at es q) b

-- .. one that adds something
addition_step : IsStep added_at additions_say
addition_step = record { sorted = sorted; finds = finds }
  where
    sorted : (es : ListingValue) (u : PathValue × Update) → Ascends es → Ascends (added_at es u)
    sorted es (p, Gone) s = s
    sorted es (p, Changed f) s = s
    sorted es (p, Added f) s = sorted-insert_entry path_cmp_total es p f s

    finds : (es : ListingValue) (u : PathValue × Update) (q : PathValue) (b : Bool) → Ascends es →
        is_at (path_cmp q) u.0 ≡ b → entry_at (added_at es u) q
        ≡ (if b then additions_say u.1 (entry_at es q) else entry_at es q)
    finds es (p, Gone) q b s h = unchanged_at (entry_at es q) b
    finds es (p, Changed f) q b s h = unchanged_at (entry_at es q) b
    finds es (p, Added f) q b s h = entry_at-insert es p q f b h

-- .. and what takes that out again
drop_step : IsStep dropped_at drops_say
drop_step = record { sorted = sorted; finds = finds }
  where
    sorted : (es : ListingValue) (u : PathValue × Update) → Ascends es → Ascends (dropped_at es u)
    sorted es (p, Gone) s = s
    sorted es (p, Changed f) s = s
    sorted es (p, Added f) s = sorted-remove_entry path_cmp_total (is_at (path_cmp p)) es s

    finds : (es : ListingValue) (u : PathValue × Update) (q : PathValue) (b : Bool) → Ascends es →
        is_at (path_cmp q) u.0 ≡ b → entry_at (dropped_at es u) q
        ≡ (if b then drops_say u.1 (entry_at es q) else entry_at es q)
    finds es (p, Gone) q b s h = unchanged_at (entry_at es q) b
    finds es (p, Changed f) q b s h = unchanged_at (entry_at es q) b
    finds es (p, Added f) q b s h = remove-finds es p q b s h

-- after the updates the paths are in order
pub updated-sorted : (us : UpdatesValue) (es : ListingValue) → Ascends es → Ascends (updated es us)
updated-sorted = each-sorted updated_at updates_say update_step

-- .. and there is what they tell, or else what was there
pub updated-finds : (us : UpdatesValue) (es : ListingValue) → Ascends us → Ascends es → (q : PathValue) →
    entry_at (updated es us) q ≡ after (update_at us q) (entry_at es q)
updated-finds us es t s q = each-finds updated_at updates_say update_step us es t s q
    ∙ by (update_at us q) (entry_at es q)
  where
    by : (u : Option Update) (o : Option Found) → said updates_say u o ≡ after u o
    by None o = refl
    by (Some u) o = refl

-- what is added and then all that isn't are the updates
pub in_place : (us : UpdatesValue) (es : ListingValue) → IsListing es → IsUpdate es us →
    after_each changed_at (after_each added_at es us) us ≡ updated es us
in_place us es law up =
    same_entries path_cmp_total same_path (after_each changed_at added us) (updated es us)
    (each-sorted changed_at changes_say change_step us added ascends)
    (updated-sorted us es law.ordered)
    (λ q. each-finds changed_at changes_say change_step us added up.ordered ascends q
    ∙ (ap (said changes_say (update_at us q))
    (each-finds added_at additions_say addition_step us es up.ordered law.ordered q)
    ∙ (by (update_at us q) (entry_at es q) (sym (ap (fits_at (update_at us q)) (has_entry-some es q)) ∙ up.fits q)
    ∙ sym (updated-finds us es up.ordered law.ordered q))))
  where
    added : ListingValue
    added = after_each added_at es us

    ascends : Ascends added
    ascends = each-sorted added_at additions_say addition_step us es law.ordered

    by : (u : Option Update) (o : Option Found) → fits_at u (is_some o) ≡ true →
        said changes_say u (said additions_say u o) ≡ after u o
    by None o h = refl
    by (Some Gone) o h = refl
    by (Some (Changed f)) (Some x) h = refl
    by (Some (Changed f)) None h = absurd (true≢false (sym h))
    by (Some (Added f)) o h = refl

-- without what was added all is as it was
pub taken_out : (us : UpdatesValue) (es ms : ListingValue) → IsListing es → IsUpdate es us →
    DifferInAdded us es ms → after_each dropped_at ms us ≡ es
taken_out us es ms law up d =
    same_entries path_cmp_total same_path (after_each dropped_at ms us) es
    (each-sorted dropped_at drops_say drop_step us ms d.0) law.ordered
    (λ q. each-finds dropped_at drops_say drop_step us ms up.ordered d.0 q
    ∙ by q (update_at us q) refl (sym (ap (fits_at (update_at us q)) (has_entry-some es q)) ∙ up.fits q))
  where
    absent : (o : Option Found) → not (is_some o) ≡ true → None ≡ o
    absent None h = refl
    absent (Some x) h = absurd (true≢false (sym h))

    by : (q : PathValue) (u : Option Update) → update_at us q ≡ u →
        fits_at (update_at us q) (is_some (entry_at es q)) ≡ true → said drops_say u (entry_at ms q)
        ≡ entry_at es q
    by q None e h = d.1 q (ap is_added e)
    by q (Some Gone) e h = d.1 q (ap is_added e)
    by q (Some (Changed f)) e h = d.1 q (ap is_added e)
    by q (Some (Added f)) e h =
        absent (entry_at es q) (sym (ap (λ u. fits_at u (is_some (entry_at es q))) e) ∙ h)

-- one more is added
pub differ-next : (us : UpdatesValue) (es ms new : ListingValue) (p : PathValue) (u : Update) →
    update_at us p ≡ Some u → new ≡ added_at ms (p, u) → DifferInAdded us es ms → DifferInAdded us es new
differ-next us es ms new p u found is d = (
  rw is (addition_step.sorted ms (p, u) d.0),
  λ q h. ap (λ xs. entry_at xs q) is ∙ (by q (is_at (path_cmp q) p) refl h ∙ d.1 q h),
)
  where
    same : (u : Update) (o : Option Found) → is_added (Some u) ≡ false → additions_say u o ≡ o
    same Gone o h = refl
    same (Changed f) o h = refl
    same (Added f) o h = absurd (true≢false h)

    by : (q : PathValue) (b : Bool) → is_at (path_cmp q) p ≡ b → is_added (update_at us q) ≡ false →
        entry_at (added_at ms (p, u)) q ≡ entry_at ms q
    by q true e h =
        addition_step.finds ms (p, u) q true d.0 e
        ∙ same u (entry_at ms q) (sym (ap is_added (ap (update_at us) (at-same q p e) ∙ found)) ∙ h)
    by q false e h = addition_step.finds ms (p, u) q false d.0 e

-- what adds nothing leaves the entries
pub adds-nothing : (es : ListingValue) (p : PathValue) (u : Update) → ((f : Found) → u ≡ Added f → ⊥) →
    added_at es (p, u) ≡ es
adds-nothing es p Gone not-added = refl
adds-nothing es p (Changed f) not-added = refl
adds-nothing es p (Added f) not-added = absurd (not-added f refl)
