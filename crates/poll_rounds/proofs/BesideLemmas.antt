-- A listing whose entries are passed in their order, and what differs of them.
use Rattle.std.proofs.Common.{◌≡◌, Bool, true, false, not, ◌&&◌, ◌||◌, [], ◌∷◌, cond, filter, refl, ap, sym, subst, ◌∙◌, Option, Some, None, true≢false}
use Rattle.std.specs.Prelude.{MatchOption, is_some, Result, Ok, Err, OnOk, OnErr, if◌then◌else◌}
use Rattle.std.specs.declared.cmp.Ordering.{Ordering}
use Rattle.std.specs.declared.cmp.Ordering.TheVariants.{Less, Equal, Greater}
use Rattle.std.specs.Ordering.{is_eq, is_lt}
use Rattle.std.specs.List.Sorted.{IsStrictlySortedBy}
use Rattle.std.specs.Map.{keys_of, remove_entry}
use Rattle.std.specs.BTreeMap.{is_at, insert_entry}
use Rattle.std.proofs.lemmas.Map.Entries.{lookup-filter-keys}
use Rattle.std.proofs.lemmas.Map.Keys.{sorted_head, sorted_tail}
use Rattle.notify_paths.specs.Path.{PathValue, is_prefix, path_cmp, path_eq}
use Rattle.notify_paths.specs.PathLaws.{path_cmp_total, path_eq_decides}
use Rattle.notify_paths.proofs.Prefixes.{same_path}
use Rattle.debounce_model.specs.Honest.{has_folders}
use Rattle.debounce_model.proofs.Entries.{insert_insert_same, lookup-insert_other, lookup-insert_same, lookup-remove_other, lookup-remove_same, same_entries, sorted-filter, sorted-insert_entry, sorted-remove_entry}
use Rattle.poll_listing.specs.declared.entry.Found.{Found}
use Rattle.poll_listing.specs.declared.updates.Update.{Update}
use Rattle.poll_listing.specs.declared.updates.Update.TheVariants.{Gone, Changed, Added}
use Rattle.poll_listing.specs.Listing.{ListingValue, IsListing, entry_at, has_entry, is_nonempty}
use Rattle.poll_listing.specs.Updates.{IsUpdate, UpdatesValue, after, fits_at, found_after, update_at, updated}
use Rattle.poll_listing.proofs.PairLemmas.{AreAbove, above-trans, at_itself, entry_at-above, turned}
use Rattle.poll_listing.specs.Near.{outside}
use Rattle.poll_listing.proofs.BehindLemmas.{at-same}
use Rattle.poll_listing.proofs.NearLemmas.{outside_listing}
use Rattle.poll_listing.proofs.ListingLemmas.{entry_at-insert, has_entry-inserted, insert-grows, is_listing-insert}
use Rattle.poll_listing.proofs.UpdateLemmas.{Ascends, updated-finds, updated-sorted}
use Rattle.poll_listing.proofs.WalkLemmas.{has_entry-some}
use Rattle.poll_rounds.specs.Beside.{BesideValue, IsBeside, begins_before, put_in, within, without}

-- what is told last of a path is found, and elsewhere what was told
pub update_at-insert : (us : UpdatesValue) (p q : PathValue) (u : Update) (b : Bool) → is_at (path_cmp q) p ≡ b →
    update_at (insert_entry path_cmp us p u) q ≡ (if b then Some u else update_at us q)
update_at-insert us p q u true h = let same : q ≡ p = at-same q p h in
    rw same (lookup-insert_same path_cmp_total us p u)
update_at-insert us p q u false h = lookup-insert_other path_cmp_total us p q u h

-- nothing is told where an update was taken out
update_at-remove : (us : UpdatesValue) (p q : PathValue) (b : Bool) → Ascends us → is_at (path_cmp q) p ≡ b →
    update_at (remove_entry (is_at (path_cmp p)) us) q ≡ (if b then None else update_at us q)
update_at-remove us p q true s h = let same : q ≡ p = at-same q p h in
    rw same (lookup-remove_same path_cmp_total us p s)
update_at-remove us p q false s h = lookup-remove_other path_cmp_total us p q h

-- a path that some entries have is found in them
there_if : (es : ListingValue) (q : PathValue) (f : Found) → entry_at es q ≡ Some f → has_entry es q ≡ true
there_if es q f h = has_entry-some es q ∙ ap is_some h

-- what stands at a path without what is left
without_finds : (last left : ListingValue) (q : PathValue) → entry_at (without last left) q
    ≡ (if has_entry left q then None else entry_at last q)
without_finds last left q =
    lookup-filter-keys (is_at (path_cmp q)) (λ k. not (has_entry left k)) (not (has_entry left q))
    (λ k h. ap (λ z. not (has_entry left z)) (sym (at-same q k h))) last
    ∙ by (has_entry left q)
  where
    by : (b : Bool) → cond (not b) (entry_at last q) None ≡ (if b then None else entry_at last q)
    by true = refl
    by false = refl

-- it ascends
without_sorted : (last left : ListingValue) → Ascends last → Ascends (without last left)
without_sorted last left s = sorted-filter path_cmp_total (λ e. not (has_entry left e.0)) last s

-- without what is nothing all is left
pub without-none : (last : ListingValue) → without last [] ≡ last
without-none [] = refl
without-none (e ∷ es) = ap (λ r. e ∷ r) (without-none es)

-- what stands at and below a path
within_finds : (es : ListingValue) (p q : PathValue) → entry_at (within es p) q
    ≡ (if is_prefix p q then entry_at es q else None)
within_finds es p q =
    lookup-filter-keys (is_at (path_cmp q)) (is_prefix p) (is_prefix p q)
    (λ k h. ap (is_prefix p) (sym (at-same q k h))) es

-- outside the path without parts nothing is
pub outside-all : (es : ListingValue) → outside es [] ≡ []
outside-all [] = refl
outside-all (e ∷ es) = outside-all es

-- a listing, of which nothing is looked at anew
pub begun : (last : ListingValue) → IsListing last → IsBeside (record { last = last; left = []; updates = [] })
unfolding IsStrictlySortedBy
begun last law = record {
  law = law;
  sorted = tt;
  part = λ q h. absurd (true≢false (sym h));
  ordered = tt;
  apart = λ q h. refl;
  fits = λ q. refl;
  put = subst IsListing (sym (without-none last)) law;
}

module _ (last left : ListingValue) (us : UpdatesValue)
    (b : IsBeside (record { last = last; left = left; updates = us })) where
  -- the entries that aren't left ascend
  passed_sorted : Ascends (without last left)
  passed_sorted = without_sorted last left b.law.ordered

  -- what was put in is what the updates tell, or what isn't left
  put_finds : (q : PathValue) → entry_at (updated (without last left) us) q
      ≡ after (update_at us q) (entry_at (without last left) q)
  put_finds q = updated-finds us (without last left) b.ordered passed_sorted q

  -- once nothing is left, it is what the updates tell, or what was there
  pub put-kept : left ≡ [] → (q : PathValue) → entry_at (updated (without last left) us) q
      ≡ after (update_at us q) (entry_at last q)
  put-kept none q = put_finds q
      ∙ ap (after (update_at us q)) (ap (λ es. entry_at (without last es) q) none
      ∙ ap (λ es. entry_at es q) (without-none last))

  -- once nothing is left, what stands at and below a path is looked at anew
  module _ (none : left ≡ []) (p : PathValue) (more : ListingValue) (new : UpdatesValue) (is : more ≡ within last p)
      (fewer : new ≡ filter (λ u. not (is_prefix p u.0)) us) where
    -- what is looked at anew
    more_finds : (q : PathValue) → entry_at more q ≡ (if is_prefix p q then entry_at last q else None)
    more_finds q = ap (λ es. entry_at es q) is ∙ within_finds last p q

    -- .. is there if it lies at or below the path
    more_has : (q : PathValue) → has_entry more q ≡ (is_prefix p q && has_entry last q)
    more_has q = has_entry-some more q ∙ (ap is_some (more_finds q) ∙ (by (is_prefix p q)
        ∙ ap (λ t. is_prefix p q && t) (sym (has_entry-some last q))))
      where
        by : (t : Bool) → is_some (if t then entry_at last q else None) ≡ (t && is_some (entry_at last q))
        by true = refl
        by false = refl

    -- what is told still
    fewer_finds : (q : PathValue) → update_at new q ≡ (if is_prefix p q then None else update_at us q)
    fewer_finds q =
        ap (λ xs. update_at xs q) fewer
        ∙ (lookup-filter-keys (is_at (path_cmp q)) (λ k. not (is_prefix p k)) (not (is_prefix p q))
        (λ k h. ap (λ z. not (is_prefix p z)) (sym (at-same q k h))) us
        ∙ by (is_prefix p q))
      where
        by : (t : Bool) → cond (not t) (update_at us q) None ≡ (if t then None else update_at us q)
        by true = refl
        by false = refl

    -- .. ascends
    fewer_sorted : Ascends new
    fewer_sorted = subst Ascends (sym fewer) (sorted-filter path_cmp_total (λ u. not (is_prefix p u.0)) us b.ordered)

    -- what lies there is out
    pub out-put : updated (without last more) new ≡ outside (updated (without last left) us) p
    out-put =
        same_entries path_cmp_total same_path (updated (without last more) new)
        (outside (updated (without last left) us) p)
        (updated-sorted new (without last more) (without_sorted last more b.law.ordered))
        (sorted-filter path_cmp_total (λ e. not (is_prefix p e.0)) (updated (without last left) us)
        (updated-sorted us (without last left) passed_sorted))
        (λ q. updated-finds new (without last more) fewer_sorted (without_sorted last more b.law.ordered) q
        ∙ (ap (λ u. after u (entry_at (without last more) q)) (fewer_finds q)
        ∙ (ap (after (if is_prefix p q then None else update_at us q)) (without_finds last more q)
        ∙ (ap (λ t. after (if is_prefix p q then None else update_at us q) (if t then None else entry_at last q))
        (more_has q)
        ∙ (by q (is_prefix p q) refl
        ∙ sym (lookup-filter-keys (is_at (path_cmp q)) (λ k. not (is_prefix p k)) (not (is_prefix p q))
        (λ k h. ap (λ z. not (is_prefix p z)) (sym (at-same q k h))) (updated (without last left) us)))))))
      where
        at : (o : Option Found) (t : Bool) → is_some o ≡ t → (if t then None else o) ≡ None
        at None true h = refl
        at None false h = refl
        at (Some x) true h = refl
        at (Some x) false h = absurd (true≢false h)

        by : (q : PathValue) (t : Bool) → is_prefix p q ≡ t →
            after (if t then None else update_at us q) (if t && has_entry last q then None else entry_at last q)
            ≡ cond (not t) (entry_at (updated (without last left) us) q) None
        by q true h = at (entry_at last q) (has_entry last q) (sym (has_entry-some last q))
        by q false h = sym (put-kept none q)

    -- .. and the rest is as it was
    pub out : IsBeside (record { last = last; left = more; updates = new })
    out = record {
      law = b.law;
      sorted = subst Ascends (sym is) (sorted-filter path_cmp_total (λ e. is_prefix p e.0) last b.law.ordered);
      part = λ q h. part q (is_prefix p q) refl h;
      ordered = fewer_sorted;
      apart = λ q h. apart q (is_prefix p q) refl h;
      fits = λ q. ap (λ u. fits_at u (has_entry last q)) (fewer_finds q) ∙ by q (is_prefix p q);
      put = subst IsListing (sym out-put) (outside_listing (updated (without last left) us) p b.put);
    }
      where
        part : (q : PathValue) (t : Bool) → is_prefix p q ≡ t → has_entry more q ≡ true → entry_at more q
            ≡ entry_at last q
        part q true e h = more_finds q ∙ ap (λ t. if t then entry_at last q else None) e
        part q false e h = absurd (true≢false (sym h ∙ (more_has q ∙ ap (λ t. t && has_entry last q) e)))

        apart : (q : PathValue) (t : Bool) → is_prefix p q ≡ t → has_entry more q ≡ true → update_at new q ≡ None
        apart q true e h = fewer_finds q ∙ ap (λ t. if t then None else update_at us q) e
        apart q false e h = absurd (true≢false (sym h ∙ (more_has q ∙ ap (λ t. t && has_entry last q) e)))

        by : (q : PathValue) (t : Bool) → fits_at (if t then None else update_at us q) (has_entry last q) ≡ true
        by q true = refl
        by q false = b.fits q

module _ (last left rest : ListingValue) (us : UpdatesValue) (p : PathValue) (f : Found)
    (b : IsBeside (record { last = last; left = left; updates = us })) (next : left ≡ (p, f) ∷ rest) where
  -- what is left, and ascends
  ascends : Ascends ((p, f) ∷ rest)
  ascends = subst Ascends next b.sorted

  -- the next entry is left
  next_there : has_entry left p ≡ true
  next_there = ap (λ es. has_entry es p) next ∙ rw (at_itself p) refl

  -- .. and isn't among those behind it
  none_behind : has_entry rest p ≡ false
  none_behind = has_entry-some rest p
      ∙ ap is_some (entry_at-above p rest (sorted_head path_cmp p (keys_of rest) ascends))

  -- what is behind it is left
  behind_there : (q : PathValue) → has_entry rest q ≡ true → has_entry left q ≡ true
  behind_there q h = ap (λ es. has_entry es q) next ∙ by (is_at (path_cmp q) p) h
    where
      by : (t : Bool) → has_entry rest q ≡ true → (t || has_entry rest q) ≡ true
      by true h = refl
      by false h = h

  -- .. and elsewhere
  behind_apart : (q : PathValue) → has_entry rest q ≡ true → is_at (path_cmp q) p ≡ false
  behind_apart q h = by (is_at (path_cmp q) p) refl
    where
      by : (t : Bool) → is_at (path_cmp q) p ≡ t → t ≡ false
      by true e = absurd (true≢false (sym h ∙ (ap (has_entry rest) (at-same q p e) ∙ none_behind)))
      by false e = refl

  -- the last listing has it
  next_last : entry_at last p ≡ Some f
  next_last = sym (b.part p next_there) ∙ (ap (λ es. entry_at es p) next ∙ rw (at_itself p) refl)

  -- .. at its path
  next_in_last : has_entry last p ≡ true
  next_in_last = there_if last p f next_last

  -- the entries without those behind it ascend
  passed_next_sorted : Ascends (without last rest)
  passed_next_sorted = without_sorted last rest b.law.ordered

  -- they have it besides
  next_finds : (q : PathValue) (t : Bool) → is_at (path_cmp q) p ≡ t → entry_at (without last rest) q
      ≡ (if t then Some f else entry_at (without last left) q)
  next_finds q true h =
      ap (entry_at (without last rest)) (at-same q p h)
      ∙ (without_finds last rest p
      ∙ (ap (λ t. if t then None else entry_at last p) none_behind ∙ next_last))
  next_finds q false h =
      without_finds last rest q
      ∙ (ap (λ t. if t then None else entry_at last q) (sym (ap (λ es. has_entry es q) next ∙ rw h refl))
      ∙ sym (without_finds last left q))

  -- what is behind is a part of the last listing, in order
  behind_sorted : Ascends rest
  behind_sorted = sorted_tail path_cmp p (keys_of rest) ascends

  -- .. with its entries
  behind_part : (q : PathValue) → has_entry rest q ≡ true → entry_at rest q ≡ entry_at last q
  behind_part q h =
      sym (ap (λ es. entry_at es q) next ∙ rw (behind_apart q h) refl) ∙ b.part q (behind_there q h)

  -- it is passed, and goes
  module _ (new : UpdatesValue) (is : new ≡ insert_entry path_cmp us p Gone) where
    -- what is told now
    gone_finds : (q : PathValue) (t : Bool) → is_at (path_cmp q) p ≡ t → update_at new q
        ≡ (if t then Some Gone else update_at us q)
    gone_finds q t h = ap (λ xs. update_at xs q) is ∙ update_at-insert us p q Gone t h

    -- the updates ascend
    gone_sorted : Ascends new
    gone_sorted = subst Ascends (sym is) (sorted-insert_entry path_cmp_total us p Gone b.ordered)

    -- that puts nothing in
    pub passed-same : updated (without last rest) new ≡ updated (without last left) us
    passed-same =
        same_entries path_cmp_total same_path (updated (without last rest) new) (updated (without last left) us)
        (updated-sorted new (without last rest) passed_next_sorted)
        (updated-sorted us (without last left) (passed_sorted last left us b))
        (λ q. updated-finds new (without last rest) gone_sorted passed_next_sorted q
        ∙ (by q (is_at (path_cmp q) p) refl ∙ sym (put_finds last left us b q)))
      where
        by : (q : PathValue) (t : Bool) → is_at (path_cmp q) p ≡ t →
            after (update_at new q) (entry_at (without last rest) q)
            ≡ after (update_at us q) (entry_at (without last left) q)
        by q true h =
            let same : q ≡ p = at-same q p h in
            let before : update_at us q ≡ None = ap (update_at us) same ∙ b.apart p next_there in
            let lacks : entry_at (without last left) q ≡ None =
            without_finds last left q
            ∙ ap (λ t. if t then None else entry_at last q) (ap (has_entry left) same ∙ next_there) in
            rw (gone_finds q true h, before, lacks) refl
        by q false h =
            let stays : entry_at (without last rest) q ≡ entry_at (without last left) q = next_finds q false h in
            rw (gone_finds q false h, stays) refl

    -- .. and the others are left
    pub passed : IsBeside (record { last = last; left = rest; updates = new })
    passed = record {
      law = b.law;
      sorted = behind_sorted;
      part = behind_part;
      ordered = gone_sorted;
      apart = λ q h. gone_finds q false (behind_apart q h) ∙ b.apart q (behind_there q h);
      fits = λ q. by q (is_at (path_cmp q) p) refl;
      put = subst IsListing (sym passed-same) b.put;
    }
      where
        by : (q : PathValue) (t : Bool) → is_at (path_cmp q) p ≡ t →
            fits_at (update_at new q) (has_entry last q) ≡ true
        by q true h = rw (gone_finds q true h) (ap (has_entry last) (at-same q p h) ∙ next_in_last)
        by q false h = rw (gone_finds q false h) (b.fits q)

  -- it is met, and stays
  pub met-put : updated (without last rest) us ≡ insert_entry path_cmp (updated (without last left) us) p f
  met-put =
      same_entries path_cmp_total same_path (updated (without last rest) us)
      (insert_entry path_cmp (updated (without last left) us) p f)
      (updated-sorted us (without last rest) passed_next_sorted)
      (sorted-insert_entry path_cmp_total (updated (without last left) us) p f
      (updated-sorted us (without last left) (passed_sorted last left us b)))
      (λ q. updated-finds us (without last rest) b.ordered passed_next_sorted q ∙ by q (is_at (path_cmp q) p) refl)
    where
      by : (q : PathValue) (t : Bool) → is_at (path_cmp q) p ≡ t →
          after (update_at us q) (entry_at (without last rest) q)
          ≡ entry_at (insert_entry path_cmp (updated (without last left) us) p f) q
      by q true h =
          let same : q ≡ p = at-same q p h in
          let before : update_at us q ≡ None = ap (update_at us) same ∙ b.apart p next_there in
          let here : entry_at (without last rest) q ≡ Some f = next_finds q true h in
          rw (before, here) (sym (entry_at-insert (updated (without last left) us) p q f true h))
      by q false h =
          let stays : entry_at (without last rest) q ≡ entry_at (without last left) q = next_finds q false h in
          rw stays (sym (put_finds last left us b q)
          ∙ sym (entry_at-insert (updated (without last left) us) p q f false h))

  -- .. and the others are left
  pub met : is_nonempty p ≡ true → has_folders (keys_of (updated (without last left) us)) p ≡ true →
      IsBeside (record { last = last; left = rest; updates = us })
  met nonempty folders = record {
    law = b.law;
    sorted = behind_sorted;
    part = behind_part;
    ordered = b.ordered;
    apart = λ q h. b.apart q (behind_there q h);
    fits = b.fits;
    put = subst IsListing (sym met-put) (is_listing-insert (updated (without last left) us) p f b.put nonempty folders);
  }

-- what is told of a path that isn't left
module _ (last left : ListingValue) (us : UpdatesValue) (p : PathValue) (f : Found)
    (b : IsBeside (record { last = last; left = left; updates = us })) (here : has_entry left p ≡ false)
    (new : UpdatesValue) (x : Option Update) (ordered : Ascends new)
    (finds : (q : PathValue) (t : Bool) → is_at (path_cmp q) p ≡ t → update_at new q
    ≡ (if t then x else update_at us q))
    (says : after x (entry_at (without last left) p) ≡ Some f) where
  -- it is put in
  pub told-put : updated (without last left) new ≡ insert_entry path_cmp (updated (without last left) us) p f
  told-put =
      same_entries path_cmp_total same_path (updated (without last left) new)
      (insert_entry path_cmp (updated (without last left) us) p f)
      (updated-sorted new (without last left) (passed_sorted last left us b))
      (sorted-insert_entry path_cmp_total (updated (without last left) us) p f
      (updated-sorted us (without last left) (passed_sorted last left us b)))
      (λ q. updated-finds new (without last left) ordered (passed_sorted last left us b) q
      ∙ by q (is_at (path_cmp q) p) refl)
    where
      by : (q : PathValue) (t : Bool) → is_at (path_cmp q) p ≡ t →
          after (update_at new q) (entry_at (without last left) q)
          ≡ entry_at (insert_entry path_cmp (updated (without last left) us) p f) q
      by q true h =
          ap (λ u. after u (entry_at (without last left) q)) (finds q true h)
          ∙ (ap (λ z. after x (entry_at (without last left) z)) (at-same q p h)
          ∙ (says ∙ sym (entry_at-insert (updated (without last left) us) p q f true h)))
      by q false h =
          ap (λ u. after u (entry_at (without last left) q)) (finds q false h)
          ∙ (sym (put_finds last left us b q)
          ∙ sym (entry_at-insert (updated (without last left) us) p q f false h))

  -- .. and all else is as it was
  pub told : fits_at x (has_entry last p) ≡ true → is_nonempty p ≡ true →
      has_folders (keys_of (updated (without last left) us)) p ≡ true →
      IsBeside (record { last = last; left = left; updates = new })
  told fit nonempty folders = record {
    law = b.law;
    sorted = b.sorted;
    part = b.part;
    ordered = ordered;
    apart = λ q h. apart q h (is_at (path_cmp q) p) refl;
    fits = λ q. by q (is_at (path_cmp q) p) refl;
    put = subst IsListing (sym told-put)
        (is_listing-insert (updated (without last left) us) p f b.put nonempty folders);
  }
    where
      apart : (q : PathValue) → has_entry left q ≡ true → (t : Bool) → is_at (path_cmp q) p ≡ t →
          update_at new q ≡ None
      apart q h true e = absurd (true≢false (sym h ∙ (ap (has_entry left) (at-same q p e) ∙ here)))
      apart q h false e = finds q false e ∙ b.apart q h

      by : (q : PathValue) (t : Bool) → is_at (path_cmp q) p ≡ t →
          fits_at (update_at new q) (has_entry last q) ≡ true
      by q true e = ap (λ u. fits_at u (has_entry last q)) (finds q true e)
          ∙ (ap (λ z. fits_at x (has_entry last z)) (at-same q p e) ∙ fit)
      by q false e = ap (λ u. fits_at u (has_entry last q)) (finds q false e) ∙ b.fits q

-- what the listings of updates before and after a call are, if the call went well and if it didn't
module _ (last left : ListingValue) (us : UpdatesValue) (p : PathValue) (f : Found) (w : BesideValue)
    (view : record { last = last; left = left; updates = us } ≡ w)
    (b : IsBeside (record { last = last; left = left; updates = us })) (here : has_entry w.left p ≡ false)
    (nonempty : is_nonempty p ≡ true) (folders : has_folders (keys_of (put_in w)) p ≡ true) where
  -- what is told, and what was put in then
  abbrev IsTold : UpdatesValue → Type 0
  IsTold new = (updated (without last left) new ≡ insert_entry path_cmp (put_in w) p f)
      × IsBeside (record { last = last; left = left; updates = new })

  -- an update was told
  telling : (new : UpdatesValue) (x : Option Update) → Ascends new → ((q : PathValue) (t : Bool) →
      is_at (path_cmp q) p ≡ t → update_at new q ≡ (if t then x else update_at us q)) →
      after x (entry_at (without last left) p) ≡ Some f → fits_at x (has_entry last p) ≡ true → IsTold new
  telling new x ordered finds says fit =
      let apart : has_entry left p ≡ false =
      subst (λ (v : BesideValue). has_entry v.left p ≡ false) (sym view) here in
      let above : has_folders (keys_of (updated (without last left) us)) p ≡ true =
      subst (λ v. has_folders (keys_of (put_in v)) p ≡ true) (sym view) folders in (
        told-put last left us p f b apart new x ordered finds says
            ∙ ap (λ v. insert_entry path_cmp (put_in v) p f) view,
        told last left us p f b apart new x ordered finds says fit nonempty above,
      )

  -- one more was told
  one_told : (u : Update) → found_after u ≡ Some f → fits_at (Some u) (has_entry last p) ≡ true →
      IsTold (insert_entry path_cmp us p u)
  one_told u says fit =
      telling (insert_entry path_cmp us p u) (Some u) (sorted-insert_entry path_cmp_total us p u b.ordered)
      (λ q t h. update_at-insert us p q u t h) says fit

  -- of what the last listing has as it is, nothing is told
  pub told-same : (new : UpdatesValue) → new ≡ remove_entry (is_at (path_cmp p)) us → entry_at last p ≡ Some f →
      IsTold new
  told-same new is some =
      let apart : has_entry left p ≡ false =
      subst (λ (v : BesideValue). has_entry v.left p ≡ false) (sym view) here in
      let says : entry_at (without last left) p ≡ Some f =
      without_finds last left p ∙ (ap (λ t. if t then None else entry_at last p) apart ∙ some) in
      subst IsTold (sym is)
      (telling (remove_entry (is_at (path_cmp p)) us) None
      (sorted-remove_entry path_cmp_total (is_at (path_cmp p)) us b.ordered)
      (λ q t h. update_at-remove us p q t b.ordered h) says refl)

  -- one more was told, if it went well, and else nothing was
  told-if : {T E : Type 0} (r : Result T E) (new ins : UpdatesValue) → OnOk r (new ≡ ins) → OnErr r (new ≡ us) →
      IsTold ins → OnOk r (updated (without last left) new ≡ insert_entry path_cmp (put_in w) p f)
      × IsBeside (record { last = last; left = left; updates = new })
  told-if (Ok x) new ins ok err told = subst IsTold (sym ok) told
  told-if (Err e) new ins ok err told =
      (tt, subst (λ us. IsBeside (record { last = last; left = left; updates = us })) (sym err) b)

  -- what the last listing lacks is added
  pub told-added : {T E : Type 0} (r : Result T E) (new : UpdatesValue) →
      OnOk r (new ≡ insert_entry path_cmp us p (Added f)) → OnErr r (new ≡ us) → entry_at last p ≡ None →
      OnOk r (updated (without last left) new ≡ insert_entry path_cmp (put_in w) p f)
      × IsBeside (record { last = last; left = left; updates = new })
  told-added r new ok err none =
      told-if r new (insert_entry path_cmp us p (Added f)) ok err
      (one_told (Added f) refl (ap not (has_entry-some last p ∙ ap is_some none)))

  -- what it has is changed
  pub told-changed : {T E : Type 0} (r : Result T E) (new : UpdatesValue) (g : Found) →
      OnOk r (new ≡ insert_entry path_cmp us p (Changed f)) → OnErr r (new ≡ us) → entry_at last p ≡ Some g →
      OnOk r (updated (without last left) new ≡ insert_entry path_cmp (put_in w) p f)
      × IsBeside (record { last = last; left = left; updates = new })
  told-changed r new g ok err some =
      told-if r new (insert_entry path_cmp us p (Changed f)) ok err
      (one_told (Changed f) refl (has_entry-some last p ∙ ap is_some some))

-- what is equal is not less
not_less : (o : Ordering) → is_eq o ≡ true → is_lt o ≡ false
not_less Less h = absurd (true≢false (sym h))
not_less Equal h = refl
not_less Greater h = refl

-- an entry at the path doesn't stand before it
pub at_not_before : (es rest : ListingValue) (q p : PathValue) (f : Found) → es ≡ (q, f) ∷ rest → q ≡ p →
    begins_before es p ≡ false
at_not_before es rest q p f is same =
    rw is (subst (λ x. is_lt (path_cmp x p) ≡ false) (sym same) (not_less (path_cmp p p) (at_itself p)))

-- entries of which the first doesn't stand before the path, and isn't it, aren't at the path
pub none_at : (es rest : ListingValue) (p q : PathValue) (f : Found) → Ascends es → es ≡ (q, f) ∷ rest →
    begins_before es p ≡ false → path_eq q p ≡ false → has_entry es p ≡ false
none_at es rest p q f s is before apart =
    ap (λ xs. has_entry xs p) is ∙ rw (not_here (is_at (path_cmp p) q) refl)
    (has_entry-some rest p ∙ ap is_some (by (path_cmp q p) refl))
  where
    above : AreAbove q (keys_of rest)
    above = sorted_head path_cmp q (keys_of rest) (subst Ascends is s)

    begins : is_lt (path_cmp q p) ≡ false
    begins = subst (λ xs. begins_before xs p ≡ false) is before

    not_here : (t : Bool) → is_at (path_cmp p) q ≡ t → t ≡ false
    not_here true h =
        let eq : path_eq q p ≡ true = (path_eq_decides q p).1 (sym (at-same p q h)) in
        absurd (true≢false (sym eq ∙ apart))
    not_here false h = refl

    by : (o : Ordering) → path_cmp q p ≡ o → entry_at rest p ≡ None
    by Less h = let bad : is_lt Less ≡ false = ap is_lt (sym h) ∙ begins in absurd (true≢false bad)
    by Equal h = subst (λ z. entry_at rest z ≡ None) (same_path q p h) (entry_at-above q rest above)
    by Greater h = entry_at-above p rest (above-trans p q (turned q p h) (keys_of rest) above)

-- the next entry is the one at the path
module _ (last left rest : ListingValue) (us : UpdatesValue) (p q : PathValue) (f : Found) (w : BesideValue)
    (view : record { last = last; left = left; updates = us } ≡ w)
    (b : IsBeside (record { last = last; left = left; updates = us })) (next : left ≡ (q, f) ∷ rest)
    (same : q ≡ p) where
  -- the next entry, at the path
  next_at : left ≡ (p, f) ∷ rest
  next_at = next ∙ ap (λ z. (z, f) ∷ rest) same

  -- it is put in
  pub met_at-put : updated (without last rest) us ≡ insert_entry path_cmp (put_in w) p f
  met_at-put = met-put last left rest us p f b next_at ∙ ap (λ v. insert_entry path_cmp (put_in v) p f) view

  -- .. the others are left
  pub met_at : is_nonempty p ≡ true → has_folders (keys_of (put_in w)) p ≡ true →
      IsBeside (record { last = last; left = rest; updates = us })
  met_at nonempty folders =
      met last left rest us p f b next_at nonempty
      (subst (λ v. has_folders (keys_of (put_in v)) p ≡ true) (sym view) folders)

  -- .. and it isn't among them
  pub met_at-none : has_entry rest p ≡ false
  met_at-none = none_behind last left rest us p f b next_at

-- what was met was put in, if something was
module _ (r : Option Found) (old new : ListingValue) (p : PathValue)
    (met : MatchOption r (new ≡ old) (λ found. new ≡ insert_entry path_cmp old p found)) where
  -- nothing is lost
  pub met-grows : (q : PathValue) → has_entry old q ≡ true → has_entry new q ≡ true
  met-grows q h = by r met
    where
      by : (r : Option Found) → MatchOption r (new ≡ old) (λ found. new ≡ insert_entry path_cmp old p found) →
          has_entry new q ≡ true
      by None m = ap (λ es. has_entry es q) m ∙ h
      by (Some g) m = ap (λ es. has_entry es q) m ∙ insert-grows old p g q h

  -- .. and what is put in later counts
  pub met-put_over : (f : Found) → insert_entry path_cmp new p f ≡ insert_entry path_cmp old p f
  met-put_over f = by r met
    where
      by : (r : Option Found) → MatchOption r (new ≡ old) (λ found. new ≡ insert_entry path_cmp old p found) →
          insert_entry path_cmp new p f ≡ insert_entry path_cmp old p f
      by None m = ap (λ es. insert_entry path_cmp es p f) m
      by (Some g) m = ap (λ es. insert_entry path_cmp es p f) m ∙ insert_insert_same path_cmp_total old p f g

-- nothing is lost where something is put in, or isn't
pub change-grows : {T E : Type 0} (r : Result T E) (old new : ListingValue) (p : PathValue) (f : Found) →
    OnOk r (new ≡ insert_entry path_cmp old p f) → OnErr r (new ≡ old) → (q : PathValue) → has_entry old q ≡ true →
    has_entry new q ≡ true
change-grows (Ok x) old new p f ok err q h = ap (λ es. has_entry es q) ok ∙ insert-grows old p f q h
change-grows (Err e) old new p f ok err q h = ap (λ es. has_entry es q) err ∙ h

-- once nothing is left, the updates lead from the last listing to what was put in
pub ended : (v : BesideValue) → IsBeside v → v.left ≡ [] → (updated v.last v.updates ≡ put_in v)
    × IsUpdate v.last v.updates
ended v b none =
    let all : without v.last v.left ≡ v.last = ap (without v.last) none ∙ without-none v.last in
    let same : updated v.last v.updates ≡ put_in v = ap (λ es. updated es v.updates) (sym all) in
    (same, record { ordered = b.ordered; fits = b.fits; law = subst IsListing (sym same) b.put })

-- what was put in is there
pub put-there : (old new : ListingValue) (p : PathValue) (f : Found) → new ≡ insert_entry path_cmp old p f →
    has_entry new p ≡ true
put-there old new p f is = ap (λ es. has_entry es p) is ∙ has_entry-inserted old p f

-- .. and nothing is lost
pub put-grows : (old new : ListingValue) (p : PathValue) (f : Found) → new ≡ insert_entry path_cmp old p f →
    (q : PathValue) → has_entry old q ≡ true → has_entry new q ≡ true
put-grows old new p f is q h = ap (λ es. has_entry es q) is ∙ insert-grows old p f q h
