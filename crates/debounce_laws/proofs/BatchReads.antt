-- What a batch makes of a reader's paths: at each path, by what is due, with no order left in it.
use Rattle.std.proofs.Common.{◌≡◌, ◌≤◌, Bool, true, false, not, ◌&&◌, ◌||◌, inl, inr, List, [], ◌∷◌, ◌++◌, map, refl, sym, ap, subst, ◌∙◌, Less}
use Rattle.std.specs.List.{AllByRecursion, list_any}
use Rattle.std.specs.List.Sorted.{IsStrictlySortedBy}
use Rattle.std.proofs.lemmas.Bool.{and_parts, false_from_ne_true}
use Rattle.notify_types.specs.Event.{Timed}
use Rattle.notify_types.specs.Kinds.{is_creation, is_removal}
use Rattle.notify_paths.specs.Path.{PathValue, path_eq, is_prefix}
use Rattle.notify_paths.specs.PathLaws.{path_eq_decides}
use Rattle.debounce_model.specs.Kept.{has_first}
use Rattle.debounce_model.specs.Order.{Placed, InBatchOrder, placed, placed_cmp, last_path}
use Rattle.debounce_model.specs.OrderLaws.{placed_cmp_total}
use Rattle.debounce_laws.proofs.BatchOrder.{RemovalsFirst, removal_first}
use Rattle.debounce_laws.proofs.BatchTests.{any-batch}
use Rattle.debounce_model.proofs.OrderUnique.{Has, within_from_permutation, at_element, not_both_below, strictly_sorted}
use Rattle.debounce_laws.proofs.PathSets.{below_prefix}
use Rattle.debounce_laws.proofs.PathTests.{AtOrBelow}
use Rattle.debounce_laws.proofs.PlaceReads.{makes, clears}
use Rattle.debounce_laws.proofs.PlayAt.{creates_at, clears_at}
use Rattle.debounce_laws.proofs.Settling.{here, Settled, settle}

-- an event names one path
abbrev pub IsSingle : Timed → Type 0
IsSingle x = (q : PathValue) × (x.event.paths ≡ q ∷ [])

-- no creation of the list is earlier than a removal at or above it
abbrev pub AreLater : List Timed → Type 0
AreLater xs = (c r : Timed) → Has xs c → Has xs r → makes c ≡ true → clears r ≡ true →
    AtOrBelow (last_path r) (last_path c) → r.time ≤ c.time

-- a placed event is one of the list
event_of : (seen xs : List Timed) (k : Placed) → Has (placed seen xs) k → Has xs k.event
event_of seen [] k h = absurd h
event_of seen (x ∷ xs) k (inl e) = inl (ap (λ (j : Placed). j.event) e)
event_of seen (x ∷ xs) k (inr h) = inr (event_of (seen ++ x ∷ []) xs k h)

-- what a single event creates is its last path
created_path : (p : PathValue) (x : Timed) → IsSingle x → creates_at p x.event ≡ true → last_path x ≡ p
created_path p x one h =
    let two = and_parts (is_creation x.event.kind) (has_first (λ q. path_eq p q) x.event.paths) h in
    let named : path_eq p one.0 ≡ true = sym (ap (has_first (λ q. path_eq p q)) one.1) ∙ two.1 in
    let last : last_path x ≡ one.0 = rw one.1 refl in
    last ∙ sym ((path_eq_decides p one.0).0 named)

-- what a single event clears is at or below its last path
cleared_path : (p : PathValue) (x : Timed) → IsSingle x → clears_at p x.event ≡ true → AtOrBelow (last_path x) p
cleared_path p x one h =
    let two = and_parts (is_removal x.event.kind) (has_first (λ q. is_prefix q p) x.event.paths) h in
    let named : is_prefix one.0 p ≡ true = sym (ap (has_first (λ q. is_prefix q p)) one.1) ∙ two.1 in
    let last : last_path x ≡ one.0 = rw one.1 refl in
    subst (λ z. AtOrBelow z p) (sym last) (below_prefix one.0 p named)

module _ (xs : List Timed) (first : RemovalsFirst [] xs) (single : AllByRecursion IsSingle xs)
    (later : AreLater xs) (p : PathValue) where
  -- behind a creation of the path nothing clears it
  none_behind_it : (c r : Placed) → Has (placed [] xs) c → Has (placed [] xs) r → placed_cmp c r ≡ Less →
      creates_at p c.event.event ≡ true → clears_at p r.event.event ≡ false
  none_behind_it c r ic ir up is_c = false_from_ne_true (clears_at p r.event.event) (λ is_r.
      let in_c = event_of [] xs c ic in
      let in_r = event_of [] xs r ir in
      let at : last_path c.event ≡ p =
      created_path p c.event (at_element IsSingle xs c.event single in_c) is_c in
      let over : AtOrBelow (last_path r.event) (last_path c.event) =
      subst (λ z. AtOrBelow (last_path r.event) z) (sym at)
      (cleared_path p r.event (at_element IsSingle xs r.event single in_r) is_r) in
      let made : makes c.event ≡ true = (and_parts (is_creation c.event.event.kind) _ is_c).0 in
      let gone : clears r.event ≡ true = (and_parts (is_removal r.event.event.kind) _ is_r).0 in
      let down : placed_cmp r c ≡ Less =
      removal_first xs first c r ic ir made gone over (later c.event r.event in_c in_r made gone over) in
      not_both_below placed_cmp_total c r up down)

  -- .. nothing of a list
  none_of_them : (c : Placed) → Has (placed [] xs) c → creates_at p c.event.event ≡ true → (ks : List Placed) →
      AllByRecursion (Has (placed [] xs)) ks → AllByRecursion (λ k. placed_cmp c k ≡ Less) ks →
      list_any (λ k. clears_at p k.event) (map (λ k. k.event) ks) ≡ false
  none_of_them c ic is_c [] i up = refl
  none_of_them c ic is_c (k ∷ ks) i up =
      rw (none_behind_it c k ic i.0 up.0 is_c) (none_of_them c ic is_c ks i.1 up.1)

  -- the events in order are settled at the path
  settled : (ks : List Placed) → AllByRecursion (Has (placed [] xs)) ks → IsStrictlySortedBy placed_cmp ks →
      Settled (λ x. creates_at p x.event) (λ x. clears_at p x.event) (map (λ k. k.event) ks)
  unfolding IsStrictlySortedBy
  settled [] i s = tt
  settled (k ∷ ks) i s = ((λ is_c. none_of_them k i.0 is_c ks i.1 s.0), settled ks i.1 s.1)

  -- a batch of the list, read at the path
  pub batch_here : (batch : List Timed) → InBatchOrder xs batch → (b : Bool) →
      here (λ x. creates_at p x.event) (λ x. clears_at p x.event) b batch
      ≡ (list_any (λ x. creates_at p x.event) xs || (b && not (list_any (λ x. clears_at p x.event) xs)))
  batch_here batch o b =
      let still : Settled (λ x. creates_at p x.event) (λ x. clears_at p x.event) batch =
      subst (λ l. Settled (λ x. creates_at p x.event) (λ x. clears_at p x.event) l) o.events
      (settled o.ranked (within_from_permutation (placed [] xs) o.ranked o.are)
      (strictly_sorted xs o.ranked o.are o.sorted)) in
      settle (λ x. creates_at p x.event) (λ x. clears_at p x.event) batch b still
      ∙ (λ i. sym (any-batch (λ x. creates_at p x.event) xs batch o) i
      || (b && not (sym (any-batch (λ x. clears_at p x.event) xs batch o) i)))
