-- In a place list a removal stands first of its path, and each event comes from its path's queue.
use Rattle.std.proofs.Common.{◌≡◌, ◌≤◌, Bool, true, false, ◌||◌, ◌⊎◌, inl, inr, List, [], ◌∷◌, ◌++◌, append_assoc, append-nil, refl, sym, ap, subst, ◌∙◌, Less, is_eq}
use Rattle.std.specs.Map.{keys_of}
use Rattle.std.specs.Ordering.{ordering_reverse}
use Rattle.std.specs.List.{AllByRecursion, list_any}
use Rattle.std.specs.List.Sorted.{IsStrictlySortedBy}
use Rattle.std.proofs.lemmas.Bool.{or_right, or_parts, both_ways}
use Rattle.notify_types.specs.Event.{Timed}
use Rattle.notify_paths.specs.Path.{PathValue, path_cmp}
use Rattle.notify_paths.specs.PathLaws.{path_cmp_total}
use Rattle.debounce_model.specs.Due.{expired_beginning, place_list}
use Rattle.debounce_model.specs.Order.{last_path}
use Rattle.debounce_model.specs.Queues.{Queues, events_at}
use Rattle.debounce_laws.proofs.BatchOrder.{RemovalsFirst}
use Rattle.debounce_laws.proofs.BatchReads.{IsSingle, AreLater}
use Rattle.debounce_laws.proofs.DueLists.{FirstOnly, each_early, first_only_early}
use Rattle.debounce_model.proofs.OrderUnique.{Has, within_itself, at_element}
use Rattle.debounce_laws.proofs.PathSets.{same_or_not, not_tied, tied_to_itself}
use Rattle.debounce_laws.proofs.PathTests.{AtOrBelow}
use Rattle.debounce_laws.proofs.PlaceReads.{IsOwn, makes, clears, out, own_out, each_last, first_only_last}
use Rattle.debounce_laws.proofs.QueueKept.{AllWaiting}
use Rattle.debounce_laws.proofs.QueueReads.{none_behind, sorted_behind}

-- what holds of each of two lists holds of each of both
each_append : {X : Type 0} (P : X → Type 0) (xs ys : List X) → AllByRecursion P xs → AllByRecursion P ys →
    AllByRecursion P (xs ++ ys)
each_append P [] ys a b = b
each_append P (x ∷ xs) ys a b = (a.0, each_append P xs ys a.1 b)

-- what two lists have the first or the second has
has_either : {X : Type 0} (xs ys : List X) (z : X) → Has (xs ++ ys) z → (Has xs z) ⊎ (Has ys z)
has_either [] ys z h = inr h
has_either (x ∷ xs) ys z (inl e) = inl (inl e)
has_either (x ∷ xs) ys z (inr h) = by (has_either xs ys z h)
  where
    by : (Has xs z) ⊎ (Has ys z) → (Has (x ∷ xs) z) ⊎ (Has ys z)
    by (inl i) = inl (inr i)
    by (inr i) = inr i

-- where no event is a removal
firsts_none : (seen xs : List Timed) → list_any clears xs ≡ false → RemovalsFirst seen xs
firsts_none seen [] h = tt
firsts_none seen (x ∷ xs) h = let two = or_parts (clears x) (list_any clears xs) h in
    ((λ yes. absurd (both_ways (clears x) two.0 yes)), firsts_none (seen ++ x ∷ []) xs two.1)

-- in one queue, behind events of other paths
firsts_block : (seen xs : List Timed) (k : PathValue) →
    AllByRecursion (λ y. is_eq (path_cmp k (last_path y)) ≡ false) seen → AllByRecursion (IsOwn k) xs →
    FirstOnly clears xs → RemovalsFirst seen xs
firsts_block seen [] k apart own h = tt
firsts_block seen (x ∷ xs) k apart own h =
    let last : last_path x ≡ k = rw own.0.0 refl in (
      (λ _. subst (λ z. AllByRecursion (λ y. is_eq (path_cmp z (last_path y)) ≡ false) seen) (sym last) apart),
      firsts_none (seen ++ x ∷ []) xs h,
    )

-- in two lists, the second behind the first
firsts_append : (seen xs ys : List Timed) → RemovalsFirst seen xs → RemovalsFirst (seen ++ xs) ys →
    RemovalsFirst seen (xs ++ ys)
firsts_append seen [] ys f g = subst (λ l. RemovalsFirst l ys) (rw append-nil refl) g
firsts_append seen (x ∷ xs) ys f g = (
  f.0,
  firsts_append (seen ++ x ∷ []) xs ys f.1
      (subst (λ l. RemovalsFirst l ys) (sym (append_assoc seen (x ∷ []) xs)) g),
)

-- events whose paths are those of no queue
abbrev AreApart : List Timed → Queues → Type 0
AreApart seen queues =
    AllByRecursion (λ e. AllByRecursion (λ y. is_eq (path_cmp e.0 (last_path y)) ≡ false) seen) queues

-- the events of a queue are apart from those of the queues behind it
apart_behind : (k : PathValue) (xs : List Timed) (queues : Queues) → AllByRecursion (IsOwn k) xs →
    AllByRecursion (λ y. path_cmp k y ≡ Less) (keys_of queues) → AreApart xs queues
apart_behind k xs [] own up = tt
apart_behind k xs (e ∷ queues) own up = (each xs own, apart_behind k xs queues own up.1)
  where
    each : (ys : List Timed) → AllByRecursion (IsOwn k) ys →
        AllByRecursion (λ y. is_eq (path_cmp e.0 (last_path y)) ≡ false) ys
    each [] o = tt
    each (y ∷ ys) o =
        let last : last_path y ≡ k = rw o.0.0 refl in (
          ap (λ z. is_eq (path_cmp e.0 z)) last
              ∙ ap is_eq (path_cmp_total.antisymm e.0 k ∙ ap ordering_reverse up.0),
          each ys o.1,
        )

-- events that are apart from the queues, with more of them
apart_append : (xs ys : List Timed) (queues : Queues) → AreApart xs queues → AreApart ys queues →
    AreApart (xs ++ ys) queues
apart_append xs ys [] a b = tt
apart_append xs ys (e ∷ queues) a b = (each_append _ xs ys a.0 b.0, apart_append xs ys queues a.1 b.1)

module _ (due : Timed → Bool) where
  -- a removal stands first of its path in a place list
  firsts_places : (seen : List Timed) (queues : Queues) → IsStrictlySortedBy path_cmp (keys_of queues) →
      AllWaiting IsOwn queues → AllByRecursion (λ e. FirstOnly clears e.1) queues → AreApart seen queues →
      RemovalsFirst seen (place_list due queues)
  unfolding IsStrictlySortedBy
  firsts_places seen [] s own first apart = tt
  firsts_places seen (e ∷ queues) s own first apart =
      let mine = own_out due e.0 e.1 own.0 in
      firsts_append seen (out due e.1) (place_list due queues)
      (firsts_block seen (out due e.1) e.0 apart.0 mine
      (first_only_last (expired_beginning due e.1) (first_only_early due clears e.1 first.0)))
      (firsts_places (seen ++ out due e.1) queues s.1 own.1 first.1
      (apart_append seen (out due e.1) queues apart.1 (apart_behind e.0 (out due e.1) queues mine s.0)))

  -- no queue is apart from nothing
  apart_none : (queues : Queues) → AreApart [] queues
  apart_none [] = tt
  apart_none (e ∷ queues) = (tt, apart_none queues)

  -- .. from the first
  pub removals_first : (queues : Queues) → IsStrictlySortedBy path_cmp (keys_of queues) →
      AllWaiting IsOwn queues → AllByRecursion (λ e. FirstOnly clears e.1) queues →
      RemovalsFirst [] (place_list due queues)
  removals_first queues s own first = firsts_places [] queues s own first (apart_none queues)

  -- each event of a place list names one path
  pub places_single : (queues : Queues) → AllWaiting IsOwn queues →
      AllByRecursion IsSingle (place_list due queues)
  places_single [] own = tt
  places_single (e ∷ queues) own =
      each_append IsSingle (out due e.1) (place_list due queues)
      (each (out due e.1) (own_out due e.0 e.1 own.0)) (places_single queues own.1)
    where
      each : (ys : List Timed) → AllByRecursion (IsOwn e.0) ys → AllByRecursion IsSingle ys
      each [] o = tt
      each (y ∷ ys) o = ((e.0, o.0.0), each ys o.1)

  -- each event of a place list comes from the queue of its path
  from_queue : (queues : Queues) (x : Timed) → IsStrictlySortedBy path_cmp (keys_of queues) →
      AllWaiting IsOwn queues → Has (place_list due queues) x → Has (events_at queues (last_path x)) x
  from_queue [] x s own h = absurd h
  from_queue (e ∷ queues) x s own h =
      by (has_either (out due e.1) (place_list due queues) x h)
      (λ i. from_queue queues x (sorted_behind e queues s) own.1 i)
    where
      mine : Has (out due e.1) x → Has (events_at (e ∷ queues) (last_path x)) x
      mine i =
          let inside : Has e.1 x =
          at_element (Has e.1) (out due e.1) x (each_last (Has e.1) (expired_beginning due e.1)
          (each_early due (Has e.1) e.1 (within_itself e.1))) i in
          let named = (at_element (IsOwn e.0) e.1 x own.0 inside).0 in
          let last : last_path x ≡ e.0 = rw named refl in
          let read : events_at (e ∷ queues) e.0 ≡ e.1 = rw (tied_to_itself e.0) refl in
          subst (λ l. Has l x) (sym (ap (events_at (e ∷ queues)) last ∙ read)) inside

      later : Has (events_at queues (last_path x)) x → (last_path x ≡ e.0) ⊎ (last_path x ≡ e.0 → ⊥) →
          Has (events_at (e ∷ queues) (last_path x)) x
      later i (inl q) = absurd (subst (λ l. Has l x) (ap (events_at queues) q ∙ none_behind e queues s) i)
      later i (inr n) = let read : events_at (e ∷ queues) (last_path x) ≡ events_at queues (last_path x) =
          rw (not_tied (last_path x) e.0 n) refl in subst (λ l. Has l x) (sym read) i

      by : (Has (out due e.1) x) ⊎ (Has (place_list due queues) x) →
          (Has (place_list due queues) x → Has (events_at queues (last_path x)) x) →
          Has (events_at (e ∷ queues) (last_path x)) x
      by (inl i) more = mine i
      by (inr i) more = later (more i) (same_or_not e.0 (last_path x))

  -- no creation of a place list is earlier than a removal at or above it
  pub places_later : (queues : Queues) → IsStrictlySortedBy path_cmp (keys_of queues) → AllWaiting IsOwn queues
      → ((p r : PathValue) → AtOrBelow p r →
      AllByRecursion (λ c. makes c ≡ true → AllByRecursion (λ e. (makes e || clears e) ≡ true →
      e.time ≤ c.time) (events_at queues p)) (events_at queues r))
      → AreLater (place_list due queues)
  places_later queues s own later c r ic ir is_c is_r below =
      let in_c = from_queue queues c s own ic in
      let in_r = from_queue queues r s own ir in
      let all = at_element (λ c. makes c ≡ true → AllByRecursion (λ e. (makes e || clears e) ≡ true →
      e.time ≤ c.time) (events_at queues (last_path r))) (events_at queues (last_path c)) c
      (later (last_path r) (last_path c) below) in_c is_c in
      at_element (λ e. (makes e || clears e) ≡ true → e.time ≤ c.time) (events_at queues (last_path r)) r all
      in_r (or_right (makes r) (clears r) is_r)
