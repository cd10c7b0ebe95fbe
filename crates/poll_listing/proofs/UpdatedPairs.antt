-- A listing and its updates side by side: the pairs ascend, and their sides are the listing before and after.
use Rattle.std.proofs.Common.{◌≡◌, Bool, true, false, List, [], ◌∷◌, map, refl, ap, sym, subst, ◌∙◌, Some, None}
use Rattle.std.specs.Prelude.{Option, if◌then◌else◌}
use Rattle.std.specs.declared.cmp.Ordering.{Ordering}
use Rattle.std.specs.declared.cmp.Ordering.TheVariants.{Less, Equal, Greater}
use Rattle.std.specs.Ordering.{match_ordering}
use Rattle.std.specs.List.Sorted.{IsStrictlySortedBy}
use Rattle.std.specs.Map.{keys_of}
use Rattle.std.specs.BTreeMap.{is_at}
use Rattle.std.specs.BTreeMap.Range.{entries_between}
use Rattle.std.specs.declared.ops.Bound.TheVariants.{Included, Unbounded}
use Rattle.notify_paths.specs.Path.{PathValue, path_cmp}
use Rattle.notify_paths.specs.PathLaws.{path_cmp_total}
use Rattle.notify_paths.proofs.Prefixes.{same_path}
use Rattle.debounce_model.proofs.Entries.{same_entries}
use Rattle.poll_listing.specs.declared.entry.Found.{Found}
use Rattle.poll_listing.specs.declared.updates.Update.{Update}
use Rattle.poll_listing.specs.Listing.{ListingValue, IsListing, entry_at}
use Rattle.poll_listing.specs.Pairs.{PairValue, both, no_parts, only_update, updated_into, updated_pairs, walk, with_update}
use Rattle.poll_listing.specs.Updates.{IsUpdate, UpdatesValue, after, found_after, update_at, updated}
use Rattle.poll_listing.proofs.PairLemmas.{AreAbove, Ascend, IsAbove, above-side, above-trans, entry_at-above, entry_cons, news_of, olds_of, turned}
use Rattle.poll_listing.proofs.BehindLemmas.{at-same}
use Rattle.poll_listing.specs.Changes.{changes}
use Rattle.poll_listing.proofs.SameLemmas.{no_changes, same_kind, same_state}
use Rattle.poll_listing.proofs.WalkLemmas.{parts_between, walk_finds_pairs}
use Rattle.poll_listing.proofs.UpdateLemmas.{Ascends, update_at-above, updated-finds, updated-sorted}

-- updates alone stay above x
above-only : (x : PathValue) (us : UpdatesValue) → AreAbove x (keys_of us) → IsAbove x (map only_update us)
above-only x [] a = a
above-only x (u ∷ us) a = (a.0, above-only x us a.1)

-- .. with one entry
above-into : (x : PathValue) (o : PathValue × Found) (os : ListingValue) → path_cmp x o.0 ≡ Less →
    ((us : UpdatesValue) → AreAbove x (keys_of us) → IsAbove x (updated_pairs os us)) → (us : UpdatesValue) →
    AreAbove x (keys_of us) → IsAbove x (updated_into o (updated_pairs os) us)
above-into x o os first rest [] a = (first, rest [] a)
above-into x o os first rest (u ∷ us) a = by (path_cmp o.0 u.0) (above-into x o os first rest us a.1)
  where
    by : (r : Ordering) → IsAbove x (updated_into o (updated_pairs os) us) →
        IsAbove x (match_ordering r (both o o ∷ updated_pairs os (u ∷ us)) (with_update o u ∷ updated_pairs os us)
        (only_update u ∷ updated_into o (updated_pairs os) us))
    by Less more = (first, rest (u ∷ us) a)
    by Equal more = (first, rest us a.1)
    by Greater more = (a.0, more)

-- entries and updates above x are above it side by side
above-updated : (x : PathValue) (os : ListingValue) (us : UpdatesValue) → AreAbove x (keys_of os) →
    AreAbove x (keys_of us) → IsAbove x (updated_pairs os us)
above-updated x [] us b a = above-only x us a
above-updated x (o ∷ os) us b a = above-into x o os b.0 (λ ms c. above-updated x os ms b.1 c) us a

-- updates alone ascend
ascend-only : (us : UpdatesValue) → Ascends us → Ascend (map only_update us)
unfolding IsStrictlySortedBy
ascend-only [] s = tt
ascend-only (u ∷ us) s = (above-only u.0 us s.0, ascend-only us s.1)

-- .. with one entry
ascend-into : (o : PathValue × Found) (os : ListingValue) → AreAbove o.0 (keys_of os) →
    ((us : UpdatesValue) → Ascends us → Ascend (updated_pairs os us)) → (us : UpdatesValue) → Ascends us →
    Ascend (updated_into o (updated_pairs os) us)
unfolding IsStrictlySortedBy
ascend-into o os b rest [] s = (above-updated o.0 os [] b tt, rest [] s)
ascend-into o os b rest (u ∷ us) s = by (path_cmp o.0 u.0) refl (ascend-into o os b rest us s.1)
  where
    by : (r : Ordering) → path_cmp o.0 u.0 ≡ r → Ascend (updated_into o (updated_pairs os) us) →
        Ascend (match_ordering r (both o o ∷ updated_pairs os (u ∷ us)) (with_update o u ∷ updated_pairs os us)
        (only_update u ∷ updated_into o (updated_pairs os) us))
    by Less q more = (
      above-updated o.0 os (u ∷ us) b (q, above-trans o.0 u.0 q (keys_of us) s.0),
      rest (u ∷ us) s,
    )
    by Equal q more = (
      above-updated o.0 os us b (subst (λ x. AreAbove x (keys_of us)) (sym (same_path o.0 u.0 q)) s.0),
      rest us s.1,
    )
    by Greater q more =
        let less = turned o.0 u.0 q in (
          above-into u.0 o os less (λ ms c. above-updated u.0 os ms (above-trans u.0 o.0 less (keys_of os) b) c)
              us s.0,
          more,
        )

-- entries and updates ascend side by side
pub ascend-updated : (os : ListingValue) (us : UpdatesValue) → Ascends os → Ascends us →
    Ascend (updated_pairs os us)
unfolding IsStrictlySortedBy
ascend-updated [] us b s = ascend-only us s
ascend-updated (o ∷ os) us b s = ascend-into o os b.0 (λ ms c. ascend-updated os ms b.1 c) us s

-- updates alone have no old entries
olds_of-only : (us : UpdatesValue) → olds_of (map only_update us) ≡ []
olds_of-only [] = refl
olds_of-only (u ∷ us) = olds_of-only us

-- .. with one entry
olds_of-into : (o : PathValue × Found) (os : ListingValue) →
    ((us : UpdatesValue) → olds_of (updated_pairs os us) ≡ os) → (us : UpdatesValue) →
    olds_of (updated_into o (updated_pairs os) us) ≡ o ∷ os
olds_of-into o os rest [] = ap (λ r. o ∷ r) (rest [])
olds_of-into o os rest (u ∷ us) = by (path_cmp o.0 u.0) (olds_of-into o os rest us)
  where
    by : (r : Ordering) → olds_of (updated_into o (updated_pairs os) us) ≡ o ∷ os →
        olds_of (match_ordering r (both o o ∷ updated_pairs os (u ∷ us)) (with_update o u ∷ updated_pairs os us)
        (only_update u ∷ updated_into o (updated_pairs os) us)) ≡ o ∷ os
    by Less more = ap (λ r. o ∷ r) (rest (u ∷ us))
    by Equal more = ap (λ r. o ∷ r) (rest us)
    by Greater more = more

-- the old side is the listing
pub olds_of-updated : (os : ListingValue) (us : UpdatesValue) → olds_of (updated_pairs os us) ≡ os
olds_of-updated [] us = olds_of-only us
olds_of-updated (o ∷ os) us = olds_of-into o os (λ ms. olds_of-updated os ms) us

-- at the first path stands what is there; at another what stands there in the rest
first-finds : (p q : PathValue) (f : Option Found) (es : ListingValue) (b : Bool) → AreAbove p (keys_of es) →
    is_at (path_cmp q) p ≡ b → entry_at (entry_cons p f es) q ≡ (if b then f else entry_at es q)
first-finds p q None es true a h = ap (entry_at es) (at-same q p h) ∙ entry_at-above p es a
first-finds p q (Some f) es true a h = rw h refl
first-finds p q None es false a h = refl
first-finds p q (Some f) es false a h = rw h refl

-- what stands after updates alone
news_of-only : (us : UpdatesValue) → Ascends us → (q : PathValue) → entry_at (news_of (map only_update us)) q
    ≡ after (update_at us q) None
unfolding IsStrictlySortedBy
news_of-only [] s q = refl
news_of-only (u ∷ us) s q = by (is_at (path_cmp q) u.0) refl (news_of-only us s.1 q)
  where
    above : AreAbove u.0 (keys_of (news_of (map only_update us)))
    above = above-side (λ p. p.after) u.0 (map only_update us) (above-only u.0 us s.0)

    by : (b : Bool) → is_at (path_cmp q) u.0 ≡ b → entry_at (news_of (map only_update us)) q
        ≡ after (update_at us q) None →
        entry_at (entry_cons u.0 (found_after u.1) (news_of (map only_update us))) q
        ≡ after (update_at (u ∷ us) q) None
    by true h more = rw h (first-finds u.0 q (found_after u.1) (news_of (map only_update us)) true above h)
    by false h more =
        rw h (first-finds u.0 q (found_after u.1) (news_of (map only_update us)) false above h ∙ more)

-- .. with one entry
news_of-into : (o : PathValue × Found) (os : ListingValue) → AreAbove o.0 (keys_of os) →
    ((us : UpdatesValue) → Ascends us → (q : PathValue) → entry_at (news_of (updated_pairs os us)) q
    ≡ after (update_at us q) (entry_at os q)) → (us : UpdatesValue) → Ascends us → (q : PathValue) →
    entry_at (news_of (updated_into o (updated_pairs os) us)) q ≡ after (update_at us q) (entry_at (o ∷ os) q)
unfolding IsStrictlySortedBy
news_of-into o os b rest [] s q = by (is_at (path_cmp q) o.0) refl
  where
    by : (t : Bool) → is_at (path_cmp q) o.0 ≡ t → entry_at (o ∷ news_of (updated_pairs os [])) q
        ≡ entry_at (o ∷ os) q
    by true h = rw h refl
    by false h = rw h (rest [] tt q)
news_of-into o os b rest (u ∷ us) s q = by (path_cmp o.0 u.0) refl (news_of-into o os b rest us s.1 q)
  where
    first : path_cmp o.0 u.0 ≡ Less → (t : Bool) → is_at (path_cmp q) o.0 ≡ t →
        entry_at (o ∷ news_of (updated_pairs os (u ∷ us))) q
        ≡ after (update_at (u ∷ us) q) (entry_at (o ∷ os) q)
    first less true h =
        let none : update_at (u ∷ us) q ≡ None =
        ap (update_at (u ∷ us)) (at-same q o.0 h)
        ∙ update_at-above o.0 (u ∷ us) (less, above-trans o.0 u.0 less (keys_of us) s.0) in
        rw (none, h) refl
    first less false h = rw h (rest (u ∷ us) s q)

    above : path_cmp o.0 u.0 ≡ Equal → AreAbove o.0 (keys_of us)
    above e = subst (λ x. AreAbove x (keys_of us)) (sym (same_path o.0 u.0 e)) s.0

    together : path_cmp o.0 u.0 ≡ Equal → (t : Bool) → is_at (path_cmp q) o.0 ≡ t →
        entry_at (entry_cons o.0 (found_after u.1) (news_of (updated_pairs os us))) q
        ≡ after (update_at (u ∷ us) q) (entry_at (o ∷ os) q)
    together e t h =
        first-finds o.0 q (found_after u.1) (news_of (updated_pairs os us)) t
        (above-side (λ p. p.after) o.0 (updated_pairs os us) (above-updated o.0 os us b (above e))) h
        ∙ (at t h (subst (λ x. is_at (path_cmp q) x ≡ t) (same_path o.0 u.0 e) h))
      where
        at : (t : Bool) → is_at (path_cmp q) o.0 ≡ t → is_at (path_cmp q) u.0 ≡ t →
            (if t then found_after u.1 else entry_at (news_of (updated_pairs os us)) q)
            ≡ after (update_at (u ∷ us) q) (entry_at (o ∷ os) q)
        at true h k = rw (h, k) refl
        at false h k = rw (h, k) (rest us s.1 q)

    above_all : path_cmp o.0 u.0 ≡ Greater → AreAbove u.0 (keys_of (news_of (updated_into o (updated_pairs os) us)))
    above_all g =
        let less = turned o.0 u.0 g in
        above-side (λ p. p.after) u.0 (updated_into o (updated_pairs os) us)
        (above-into u.0 o os less (λ ms c. above-updated u.0 os ms (above-trans u.0 o.0 less (keys_of os) b) c)
        us s.0)

    last : path_cmp o.0 u.0 ≡ Greater → entry_at (news_of (updated_into o (updated_pairs os) us)) q
        ≡ after (update_at us q) (entry_at (o ∷ os) q) → (t : Bool) → is_at (path_cmp q) u.0 ≡ t →
        entry_at (entry_cons u.0 (found_after u.1) (news_of (updated_into o (updated_pairs os) us))) q
        ≡ after (update_at (u ∷ us) q) (entry_at (o ∷ os) q)
    last g more true h =
        rw h (first-finds u.0 q (found_after u.1) (news_of (updated_into o (updated_pairs os) us)) true (above_all g) h)
    last g more false h =
        rw h (first-finds u.0 q (found_after u.1) (news_of (updated_into o (updated_pairs os) us)) false (above_all g)
        h ∙ more)

    by : (r : Ordering) → path_cmp o.0 u.0 ≡ r → entry_at (news_of (updated_into o (updated_pairs os) us)) q
        ≡ after (update_at us q) (entry_at (o ∷ os) q) →
        entry_at (news_of (match_ordering r (both o o ∷ updated_pairs os (u ∷ us))
        (with_update o u ∷ updated_pairs os us) (only_update u ∷ updated_into o (updated_pairs os) us))) q
        ≡ after (update_at (u ∷ us) q) (entry_at (o ∷ os) q)
    by Less e more = first e (is_at (path_cmp q) o.0) refl
    by Equal e more = together e (is_at (path_cmp q) o.0) refl
    by Greater e more = last e more (is_at (path_cmp q) u.0) refl

-- what stands after the updates is on the new side
news_of-finds : (os : ListingValue) (us : UpdatesValue) → Ascends os → Ascends us → (q : PathValue) →
    entry_at (news_of (updated_pairs os us)) q ≡ after (update_at us q) (entry_at os q)
unfolding IsStrictlySortedBy
news_of-finds [] us b s q = news_of-only us s q
news_of-finds (o ∷ os) us b s q = news_of-into o os b.0 (λ ms c. news_of-finds os ms b.1 c) us s q

-- the new side of pairs that ascend is in order
news_of-sorted : (ps : List PairValue) → Ascend ps → Ascends (news_of ps)
unfolding IsStrictlySortedBy
news_of-sorted [] a = tt
news_of-sorted (p ∷ ps) a = by p.after (above-side (λ p. p.after) p.path ps a.0) (news_of-sorted ps a.1)
  where
    by : (o : Option Found) → AreAbove p.path (keys_of (news_of ps)) → Ascends (news_of ps) →
        Ascends (entry_cons p.path o (news_of ps))
    by None above more = more
    by (Some f) above more = (above, more)

-- the new side is the listing after the updates
pub news_of-updated : (os : ListingValue) (us : UpdatesValue) → Ascends os → Ascends us →
    news_of (updated_pairs os us) ≡ updated os us
news_of-updated os us b s =
    same_entries path_cmp_total same_path (news_of (updated_pairs os us)) (updated os us)
    (news_of-sorted (updated_pairs os us) (ascend-updated os us b s)) (updated-sorted us os b)
    (λ q. news_of-finds os us b s q ∙ sym (updated-finds us os s b q))

-- the walk over a listing and its updates finds what they change
pub updates_walked : (os : ListingValue) (us : UpdatesValue) → IsListing os → IsUpdate os us →
    walk None (updated_pairs os us) ≡ parts_between os (updated os us)
updates_walked os us law up =
    walk_finds_pairs os (updated os us) (updated_pairs os us) (ascend-updated os us law.ordered up.ordered)
    (olds_of-updated os us) (news_of-updated os us law.ordered up.ordered)

-- without updates nothing changes
pub no_updates : (os : ListingValue) (us : UpdatesValue) → IsListing os → us ≡ [] →
    changes os (updated os us) ≡ []
no_updates os us law h = ap (λ us. changes os (updated os us)) h ∙ no_changes os law

-- an entry that stays as it is tells nothing, if nothing went
stays : (o : PathValue × Found) (ps : List PairValue) → walk None (both o o ∷ ps) ≡ walk None ps
stays o ps = rw (same_kind o.1.kind, same_state o.1) refl

-- .. nor do all entries
pub all_stay : (os : ListingValue) → walk None (updated_pairs os []) ≡ no_parts
all_stay [] = refl
all_stay (o ∷ os) = stays o (updated_pairs os []) ∙ all_stay os

-- the entries from the path on
abbrev pub from_path : PathValue → ListingValue → ListingValue
from_path path os = entries_between path_cmp (Included path) Unbounded os

-- those above a path are among them
from-above : (path : PathValue) (os : ListingValue) → AreAbove path (keys_of os) → from_path path os ≡ os
from-above path [] a = refl
from-above path (o ∷ os) a = rw a.0 (ap (λ r. o ∷ r) (from-above path os a.1))

-- those from the empty path on are all
pub from-start : (os : ListingValue) → from_path [] os ≡ os
from-start [] = refl
from-start (([], f) ∷ os) = ap (λ r. ([], f) ∷ r) (from-start os)
from-start ((x ∷ p, f) ∷ os) = ap (λ r. (x ∷ p, f) ∷ r) (from-start os)

-- the entries before the first update tell nothing
pub walked-from : (u : PathValue × Update) (us : UpdatesValue) (os : ListingValue) → Ascends os →
    walk None (updated_pairs (from_path u.0 os) (u ∷ us)) ≡ walk None (updated_pairs os (u ∷ us))
unfolding IsStrictlySortedBy
walked-from u us [] s = refl
walked-from u us (o ∷ os) s = by (path_cmp u.0 o.0) refl (walked-from u us os s.1)
  where
    kept : from_path u.0 os ≡ os → walk None (updated_pairs (o ∷ from_path u.0 os) (u ∷ us))
        ≡ walk None (updated_pairs (o ∷ os) (u ∷ us))
    kept h = ap (λ r. walk None (updated_pairs (o ∷ r) (u ∷ us))) h

    by : (r : Ordering) → path_cmp u.0 o.0 ≡ r → walk None (updated_pairs (from_path u.0 os) (u ∷ us))
        ≡ walk None (updated_pairs os (u ∷ us)) →
        walk None (updated_pairs (from_path u.0 (o ∷ os)) (u ∷ us)) ≡ walk None (updated_pairs (o ∷ os) (u ∷ us))
    by Less q more = rw q (kept (from-above u.0 os (above-trans u.0 o.0 q (keys_of os) s.0)))
    by Equal q more =
        rw q (kept (from-above u.0 os (subst (λ x. AreAbove x (keys_of os)) (sym (same_path u.0 o.0 q)) s.0)))
    by Greater q more = rw q (more ∙ before (turned u.0 o.0 q))
      where
        before : path_cmp o.0 u.0 ≡ Less → walk None (updated_pairs os (u ∷ us))
            ≡ walk None (updated_pairs (o ∷ os) (u ∷ us))
        before less = rw less (sym (stays o (updated_pairs os (u ∷ us))))
