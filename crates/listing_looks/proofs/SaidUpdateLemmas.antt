-- What becomes of what is known, by what was said.
use Rattle.std.proofs.Common.{◌≡◌, Bool, true, false, ◌&&◌, ◌||◌, List, [], ◌∷◌, cond, not, refl, ap, sym, subst, ◌∙◌, Option, Some, None}
use Rattle.std.specs.Prelude.{is_some, if◌then◌else◌}
use Rattle.std.specs.BTreeMap.{is_at, insert_entry}
use Rattle.std.specs.List.Sorted.{IsStrictlySortedBy}
use Rattle.std.proofs.lemmas.Map.Entries.{lookup-filter-keys}
use Rattle.notify_paths.specs.Path.{PathValue, is_prefix, path_cmp}
use Rattle.notify_paths.specs.PathLaws.{path_cmp_total}
use Rattle.notify_paths.proofs.Prefixes.{same_path}
use Rattle.debounce_model.proofs.Entries.{lookup-insert_other, lookup-insert_same, same_entries, sorted-filter, sorted-insert_entry}
use Rattle.poll_listing.specs.declared.entry.Found.{Found}
use Rattle.poll_listing.specs.declared.updates.Update.{Update}
use Rattle.poll_listing.specs.declared.updates.Update.TheVariants.{Gone}
use Rattle.poll_listing.specs.Listing.{IsListing, ListingValue, entry_at, has_entry}
use Rattle.poll_listing.specs.Updates.{IsUpdate, UpdatesValue, after, fits_at, update_at, updated}
use Rattle.poll_listing.proofs.BehindLemmas.{at-same}
use Rattle.poll_listing.proofs.PairLemmas.{entry_at-above}
use Rattle.poll_listing.proofs.UpdateLemmas.{Ascends, updated-finds, updated-sorted}
use Rattle.poll_listing.proofs.WalkLemmas.{has_entry-some}
use Rattle.listing_looks.specs.Looks.{is_lost, is_lost_after, said_of, within}
use Rattle.listing_looks.specs.SaidUpdates.{all_found, all_gone, each_gone, said_updates, untold, update_to}
use Rattle.listing_looks.proofs.SaidLemmas.{said-finds, said-sorted, said_at}

-- what is told last of a path is found, and elsewhere what was told
update_at-insert : (us : UpdatesValue) (p q : PathValue) (u : Update) (b : Bool) → is_at (path_cmp q) p ≡ b →
    update_at (insert_entry path_cmp us p u) q ≡ (if b then Some u else update_at us q)
update_at-insert us p q u true h = let same : q ≡ p = at-same q p h in
    rw same (lookup-insert_same path_cmp_total us p u)
update_at-insert us p q u false h = lookup-insert_other path_cmp_total us p q u h

-- entries that go do so where they stand
all_gone-finds : (es : ListingValue) (us : UpdatesValue) (q : PathValue) →
    update_at (all_gone us es) q ≡ (if has_entry es q then Some Gone else update_at us q)
all_gone-finds [] us q = refl
all_gone-finds (e ∷ es) us q =
    all_gone-finds es (insert_entry path_cmp us e.0 Gone) q
    ∙ (ap (λ o. if has_entry es q then Some Gone else o)
    (update_at-insert us e.0 q Gone (is_at (path_cmp q) e.0) refl)
    ∙ by (is_at (path_cmp q) e.0) (has_entry es q))
  where
    by : (b h : Bool) → (if h then Some Gone else (if b then Some Gone else update_at us q))
        ≡ (if b || h then Some Gone else update_at us q)
    by true true = refl
    by true false = refl
    by false true = refl
    by false false = refl

-- .. and leave the updates in order
all_gone-sorted : (es : ListingValue) (us : UpdatesValue) → Ascends us → Ascends (all_gone us es)
all_gone-sorted [] us s = s
all_gone-sorted (e ∷ es) us s =
    all_gone-sorted es (insert_entry path_cmp us e.0 Gone) (sorted-insert_entry path_cmp_total us e.0 Gone s)

-- what lies at and below a path is there if it is there
within_has : (es : ListingValue) (p q : PathValue) → has_entry (within es p) q ≡ (is_prefix p q && has_entry es q)
within_has es p q =
    has_entry-some (within es p) q
    ∙ (ap is_some (lookup-filter-keys (is_at (path_cmp q)) (is_prefix p) (is_prefix p q)
    (λ k h. ap (is_prefix p) (sym (at-same q k h))) es)
    ∙ (by (is_prefix p q) ∙ ap (λ t. is_prefix p q && t) (sym (has_entry-some es q))))
  where
    by : (b : Bool) → is_some (cond b (entry_at es q) None) ≡ (b && is_some (entry_at es q))
    by true = refl
    by false = refl

-- .. and nothing of it is told if nothing becomes of it
untold-finds : (us : UpdatesValue) (p q : PathValue) →
    update_at (untold us p) q ≡ (if is_prefix p q then None else update_at us q)
untold-finds us p q =
    lookup-filter-keys (is_at (path_cmp q)) (λ k. not (is_prefix p k)) (not (is_prefix p q))
    (λ k h. ap (λ z. not (is_prefix p z)) (sym (at-same q k h))) us
    ∙ by (is_prefix p q)
  where
    by : (b : Bool) → cond (not b) (update_at us q) None ≡ (if b then None else update_at us q)
    by true = refl
    by false = refl

-- what is told of a path that was known, if it is lost
abbrev gone_if : Bool → Bool → Option Update
gone_if lost known = if lost && known then Some Gone else None

-- the updates, after one more path at and below which all goes or stays
abbrev one_gone : UpdatesValue → ListingValue → PathValue × Bool → UpdatesValue
one_gone us known top = if top.1 then all_gone us (within known top.0) else untold us top.0

-- what lies at and below a path goes or stays
one_gone-finds : (known : ListingValue) (top : PathValue × Bool) (us : UpdatesValue) (q : PathValue) (b : Bool) →
    update_at us q ≡ gone_if b (has_entry known q) →
    update_at (one_gone us known top) q ≡ gone_if (if is_prefix top.0 q then top.1 else b) (has_entry known q)
one_gone-finds known (p, true) us q b before =
    all_gone-finds (within known p) us q
    ∙ (ap (λ h. if h then Some Gone else update_at us q) (within_has known p q)
    ∙ (ap (λ o. if is_prefix p q && has_entry known q then Some Gone else o) before
    ∙ by (is_prefix p q) (has_entry known q)))
  where
    by : (i h : Bool) → (if i && h then Some Gone else gone_if b h) ≡ gone_if (if i then true else b) h
    by true true = refl
    by true false = none b
      where
        none : (l : Bool) → gone_if l false ≡ None
        none true = refl
        none false = refl
    by false h = refl
one_gone-finds known (p, false) us q b before =
    untold-finds us p q
    ∙ (ap (λ o. if is_prefix p q then None else o) before
    ∙ by (is_prefix p q))
  where
    by : (i : Bool) → (if i then None else gone_if b (has_entry known q))
        ≡ gone_if (if i then false else b) (has_entry known q)
    by true = refl
    by false = refl

-- .. and each in turn
each_gone-finds : (known : ListingValue) (tops : List (PathValue × Bool)) (us : UpdatesValue) (q : PathValue)
    (b : Bool) → update_at us q ≡ gone_if b (has_entry known q) →
    update_at (each_gone us known tops) q ≡ gone_if (is_lost_after b tops q) (has_entry known q)
each_gone-finds known [] us q b before = before
each_gone-finds known (t ∷ tops) us q b before =
    each_gone-finds known tops (one_gone us known t) q (if is_prefix t.0 q then t.1 else b)
    (one_gone-finds known t us q b before)

-- .. and leaves the updates in order
one_gone-sorted : (known : ListingValue) (top : PathValue × Bool) (us : UpdatesValue) → Ascends us →
    Ascends (one_gone us known top)
one_gone-sorted known (p, true) us s = all_gone-sorted (within known p) us s
one_gone-sorted known (p, false) us s = sorted-filter path_cmp_total (λ u. not (is_prefix p u.0)) us s

-- .. each in turn too
each_gone-sorted : (known : ListingValue) (tops : List (PathValue × Bool)) (us : UpdatesValue) → Ascends us →
    Ascends (each_gone us known tops)
each_gone-sorted known [] us s = s
each_gone-sorted known (t ∷ tops) us s =
    each_gone-sorted known tops (one_gone us known t) (one_gone-sorted known t us s)

-- what becomes of a path where this is known, if this was found, and else this
abbrev found_or : Option Found → Option Found → Option Update → Option Update
found_or known None u = u
found_or known (Some f) u = Some (update_to known f)

-- what was found is told where it was
all_found-finds : (known es : ListingValue) (us : UpdatesValue) → Ascends es → (q : PathValue) →
    update_at (all_found us known es) q ≡ found_or (entry_at known q) (entry_at es q) (update_at us q)
unfolding IsStrictlySortedBy
all_found-finds known [] us s q = refl
all_found-finds known (e ∷ es) us s q =
    all_found-finds known es (insert_entry path_cmp us e.0 (update_to (entry_at known e.0) e.1)) s.1 q
    ∙ by (is_at (path_cmp q) e.0) refl
  where
    update : Update
    update = update_to (entry_at known e.0) e.1

    by : (b : Bool) → is_at (path_cmp q) e.0 ≡ b →
        found_or (entry_at known q) (entry_at es q) (update_at (insert_entry path_cmp us e.0 update) q)
        ≡ found_or (entry_at known q) (entry_at (e ∷ es) q) (update_at us q)
    by true h =
        let same : q ≡ e.0 = at-same q e.0 h in
        let none : entry_at es q ≡ None = ap (entry_at es) same ∙ entry_at-above e.0 es s.0 in
        rw (none, h) (update_at-insert us e.0 q update true h
        ∙ ap (λ z. Some (update_to (entry_at known z) e.1)) (sym same))
    by false h = rw h (ap (found_or (entry_at known q) (entry_at es q)) (update_at-insert us e.0 q update false h))

-- .. and leaves the updates in order
all_found-sorted : (known es : ListingValue) (us : UpdatesValue) → Ascends us → Ascends (all_found us known es)
all_found-sorted known [] us s = s
all_found-sorted known (e ∷ es) us s =
    all_found-sorted known es (insert_entry path_cmp us e.0 (update_to (entry_at known e.0) e.1))
    (sorted-insert_entry path_cmp_total us e.0 (update_to (entry_at known e.0) e.1) s)

-- no updates are in order
nothing_sorted : Ascends {X = Update} []
unfolding IsStrictlySortedBy
nothing_sorted = tt

module _ (known : ListingValue) (lost : List (PathValue × Bool)) (found : ListingValue) (law : IsListing known)
    (s : Ascends found) where
  -- the updates are in order
  ordered : Ascends (said_updates known lost found)
  ordered = all_found-sorted known found (each_gone [] known lost) (each_gone-sorted known lost [] nothing_sorted)

  -- .. and tell of each path what was said
  finds : (q : PathValue) → update_at (said_updates known lost found) q
      ≡ found_or (entry_at known q) (entry_at found q)
      (if is_lost lost q && is_some (entry_at known q) then Some Gone else None)
  finds q = all_found-finds known found (each_gone [] known lost) s q
      ∙ (ap (found_or (entry_at known q) (entry_at found q)) (each_gone-finds known lost [] q false refl)
      ∙ ap (λ h. found_or (entry_at known q) (entry_at found q) (if is_lost lost q && h then Some Gone else None))
      (has_entry-some known q))

  -- they lead to what was said
  pub said_updated : updated known (said_updates known lost found) ≡ said_of known lost found
  said_updated =
      same_entries path_cmp_total same_path (updated known (said_updates known lost found)) (said_of known lost found)
      (updated-sorted (said_updates known lost found) known law.ordered)
      (said-sorted known lost found law.ordered)
      (λ q. updated-finds (said_updates known lost found) known ordered law.ordered q
      ∙ (ap (λ u. after u (entry_at known q)) (finds q)
      ∙ (by (entry_at found q) (is_lost lost q) (entry_at known q)
      ∙ sym (said-finds known lost found s q))))
    where
      by : (f : Option Found) (l : Bool) (o : Option Found) →
          after (found_or o f (if l && is_some o then Some Gone else None)) o ≡ said_at f l o
      by (Some x) l (Some y) = refl
      by (Some x) l None = refl
      by None true (Some y) = refl
      by None false (Some y) = refl
      by None true None = refl
      by None false None = refl

  -- .. and are some of this listing
  pub are_update : IsListing (said_of known lost found) → IsUpdate known (said_updates known lost found)
  are_update said = record {
    ordered = ordered;
    fits = λ q. ap (λ u. fits_at u (has_entry known q)) (finds q)
        ∙ (ap (fits_at (found_or (entry_at known q) (entry_at found q)
        (if is_lost lost q && is_some (entry_at known q) then Some Gone else None))) (has_entry-some known q)
        ∙ by (entry_at found q) (is_lost lost q) (entry_at known q));
    law = subst IsListing (sym said_updated) said;
  }
    where
      by : (f : Option Found) (l : Bool) (o : Option Found) →
          fits_at (found_or o f (if l && is_some o then Some Gone else None)) (is_some o) ≡ true
      by (Some x) l (Some y) = refl
      by (Some x) l None = refl
      by None true (Some y) = refl
      by None false (Some y) = refl
      by None true None = refl
      by None false None = refl
