-- What a joined rename keeps.
use Rattle.std.proofs.Common.{◌≡◌, ℕ, zero, suc, ◌+◌, ◌-◌, ◌≤◌, Bool, true, false, cond, List, [], ◌∷◌, ◌++◌, refl, sym, Option, Some, None, true≢false, arith, length, length-append, take, map}
use Rattle.std.specs.Option.{option_map, unwrap_or}
use Rattle.std.specs.BTreeMap.{is_at}
use Rattle.std.specs.List.{AllByRecursion}
use Rattle.std.proofs.lemmas.Map.Entries.{sum_by-remove_entry}
use Rattle.notify_paths.specs.Path.{PathValue, path_cmp}
use Rattle.notify_types.specs.Event.{Timed, AttributesValue, no_attributes}
use Rattle.notify_types.specs.Kinds.{is_removal}
use Rattle.notify_types.specs.declared.kind.EventKind.{EventKind}
use Rattle.notify_types.specs.declared.kind.EventKind.TheVariants.{Any, Access, Create, Modify, Remove, Other}
use Rattle.std.proofs.lemmas.List.{length-map}
use Rattle.debounce_model.specs.Queues.{Queues, queue_at, removes, was_created, was_removed, waiting_in, events_at}
use Rattle.debounce_model.specs.Rename.{without_last, is_both, first_both, without_both, original_path, original_time, staying, moving, left_behind, at_path, rename_event, renaming, override_attributes, override_event, overriding, arrived, joined_halves, is_both_kind}
use Rattle.debounce_model.specs.WellFormed.{IsFirst, kept_by, IsKeyed, IsNonempty, HasNoBoth, IsBothInFront, IsQueue, AreQueues}
use Rattle.debounce_model.proofs.GoodQueues.{IsBothFirst, IsBothBehind, AreGood, good-set, good-without, found_queue, queue_of_one}

module _ (P : Timed → Type 0) where
  -- what holds of each event holds of the first ones
  pub each-take : (n : ℕ) (xs : List Timed) → AllByRecursion P xs → AllByRecursion P (take n xs)
  each-take zero xs a = tt
  each-take (suc n) [] a = tt
  each-take (suc n) (x ∷ xs) a = (a.0, each-take n xs a.1)

  -- .. of those without the first joined rename
  pub each-without_both : (xs : List Timed) → AllByRecursion P xs → AllByRecursion P (without_both xs)
  each-without_both [] a = a
  each-without_both (x ∷ xs) a = by (is_both x) (each-without_both xs a.1)
    where
      by : (b : Bool) → AllByRecursion P (without_both xs) → AllByRecursion P (cond b xs (x ∷ without_both xs))
      by true h = a.1
      by false h = (a.0, h)

  -- .. of those that go along
  pub each-moving : (xs : List Timed) → AllByRecursion P xs → AllByRecursion P (moving xs)
  each-moving [] a = a
  each-moving (x ∷ xs) a = by (removes x.event.kind)
    where
      by : (b : Bool) → AllByRecursion P (cond b xs (x ∷ xs))
      by true = a.1
      by false = a

  -- .. of the one that stays
  pub each-staying : (xs : List Timed) (x : Timed) → AllByRecursion P xs → staying xs ≡ Some x → P x
  each-staying [] x a h = cc
  each-staying (y ∷ ys) x a h = by (removes y.event.kind) h
    where
      by : (b : Bool) → cond b (Some y) None ≡ Some x → P x
      by true h = let same : y ≡ x = cc in rw (← same) a.0
      by false h = cc

-- without joined renames none stands behind the first event
no_both-first : (xs : List Timed) → HasNoBoth xs → IsBothFirst xs
no_both-first [] k = tt
no_both-first (x ∷ xs) k = k.1

-- a joined rename stays in front among the first events
pub in_front-take : (n : ℕ) (xs : List Timed) → IsBothInFront xs → IsBothInFront (take n xs)
in_front-take zero xs k = tt
in_front-take (suc n) [] k = tt
in_front-take (suc n) (x ∷ xs) k = by (is_removal x.event.kind) k
  where
    first : (n : ℕ) (xs : List Timed) → IsBothFirst xs → IsBothFirst (take n xs)
    first zero xs k = tt
    first (suc n) [] k = tt
    first (suc n) (y ∷ ys) k = each-take (λ z. is_both z ≡ false) n ys k

    by : (b : Bool) → IsBothBehind b xs → IsBothBehind b (take n xs)
    by true k = first n xs k
    by false k = each-take (λ z. is_both z ≡ false) n xs k

-- a joined rename is no removal
both_no_remove : (k : EventKind) → is_both_kind k ≡ true → is_removal k ≡ false
both_no_remove Any h = refl
both_no_remove (Access k) h = refl
both_no_remove (Create k) h = refl
both_no_remove (Modify k) h = refl
both_no_remove (Remove k) h = absurd (true≢false (sym h))
both_no_remove Other h = refl

-- without its first Name(Both) a queue has none
no_both-without : (xs : List Timed) → IsBothInFront xs → HasNoBoth (without_both xs)
no_both-without [] k = tt
no_both-without (x ∷ xs) k = by (is_both x) refl
  where
    behind : (ys : List Timed) → IsBothFirst ys → HasNoBoth (without_both ys)
    behind [] k = tt
    behind (y ∷ ys) k = at (is_both y) refl
      where
        at : (b : Bool) → is_both y ≡ b → HasNoBoth (cond b ys (y ∷ without_both ys))
        at true e = k
        at false e = (e, each-without_both (λ z. is_both z ≡ false) ys k)

    then : (b : Bool) → IsBothBehind b xs → HasNoBoth (without_both xs)
    then true k = behind xs k
    then false k = each-without_both (λ z. is_both z ≡ false) xs k

    by : (b : Bool) → is_both x ≡ b → HasNoBoth (cond b xs (x ∷ without_both xs))
    by true e = rw (both_no_remove x.event.kind e) at k
    by false e = (e, then (is_removal x.event.kind) k)

-- events that go along are kept by the target
keyed-moved : (t : PathValue) (xs : List Timed) → HasNoBoth xs → IsKeyed t (map (at_path t) xs)
keyed-moved t [] k = tt
keyed-moved t (x ∷ xs) k = (rw k.0 refl, keyed-moved t xs k.1)

-- .. and are no joined renames
pub no_both-moved : (t : PathValue) (xs : List Timed) → HasNoBoth xs → HasNoBoth (map (at_path t) xs)
no_both-moved t [] k = tt
no_both-moved t (x ∷ xs) k = (k.0, no_both-moved t xs k.1)

-- the rename and what moves along
renamed_law : (o t : PathValue) (attrs : AttributesValue) (time : ℕ) (r : List Timed) → IsKeyed t r →
    HasNoBoth r → IsNonempty (renaming o t attrs time r ++ r) × IsKeyed t (renaming o t attrs time r ++ r)
    × IsBothFirst (renaming o t attrs time r ++ r) × IsBothInFront (renaming o t attrs time r ++ r)
renamed_law o t attrs time r k n = by (was_created r) refl
  where
    nonempty : (r : List Timed) → was_created r ≡ true → IsNonempty r
    nonempty [] e = absurd (true≢false (sym e))
    nonempty (x ∷ r) e = tt

    in_front : (r : List Timed) → HasNoBoth r → IsBothInFront r
    in_front [] n = tt
    in_front (x ∷ r) n = at (is_removal x.event.kind)
      where
        at : (b : Bool) → IsBothBehind b r
        at true = no_both-first r n.1
        at false = n.1

    both : Timed
    both = rename_event o t attrs time

    law : List Timed → Type 0
    law xs = IsNonempty xs × IsKeyed t xs × IsBothFirst xs × IsBothInFront xs

    by : (b : Bool) → was_created r ≡ b → law (cond b [] (both ∷ []) ++ r)
    by true e = (nonempty r e, k, no_both-first r n, in_front r n)
    by false e = (tt, (refl, k), n, n)

-- what then waits at the target, from the earlier joined rename and what goes along
abbrev arrived_with : Option Timed → List Timed → Option (List Timed) → PathValue → PathValue → ℕ →
    AttributesValue → List Timed
arrived_with both moved target f t time attrs =
    overriding t (original_time both time) target
    ++ (renaming (original_path both f) t attrs (original_time both time) moved ++ moved)

-- .. is its queue
arrived_law : (both : Option Timed) (moved : List Timed) (target : Option (List Timed)) (f t : PathValue)
    (time : ℕ) (attrs : AttributesValue) → IsKeyed t moved → HasNoBoth moved →
    IsQueue t (arrived_with both moved target f t time attrs)
arrived_law both moved target f t time attrs k n = by target
  where
    m : ℕ
    m = original_time both time

    behind : List Timed
    behind = renaming (original_path both f) t attrs m moved ++ moved

    have : IsNonempty behind × IsKeyed t behind × IsBothFirst behind × IsBothInFront behind
    have = renamed_law (original_path both f) t attrs m moved k n

    by : (o : Option (List Timed)) → IsQueue t (overriding t m o ++ behind)
    by None = (have.0, have.1, have.3)
    by (Some q) = at (was_created q)
      where
        at : (b : Bool) →
            IsQueue t (cond b [] (override_event t (cond (was_removed q) no_attributes override_attributes)
            m ∷ []) ++ behind)
        at true = (have.0, have.1, have.3)
        at false = (tt, (refl, have.1), have.2)

-- the first events are no more than all
length-take-less : (n : ℕ) (xs : List Timed) → length (take n xs) ≤ length xs
length-take-less zero xs = omega arith
length-take-less (suc n) [] = omega arith
length-take-less (suc n) (x ∷ xs) = omega (arith, length-take-less n xs)

-- .. nor are those without the first joined rename
length-without_both : (xs : List Timed) → length (without_both xs) ≤ length xs
length-without_both [] = omega arith
length-without_both (x ∷ xs) = by (is_both x) (length-without_both xs)
  where
    by : (b : Bool) → length (without_both xs) ≤ length xs →
        length (cond b xs (x ∷ without_both xs)) ≤ length (x ∷ xs)
    by true h = omega arith
    by false h = omega arith

-- how many events an option holds
abbrev count : Option Timed → ℕ
count None = 0
count (Some x) = 1

-- what goes along and what stays are all
length-moving : (xs : List Timed) → length (moving xs) + count (staying xs) ≡ length xs
length-moving [] = omega arith
length-moving (x ∷ xs) = by (removes x.event.kind)
  where
    by : (b : Bool) → length (cond b xs (x ∷ xs)) + count (cond b (Some x) None) ≡ length (x ∷ xs)
    by true = omega arith
    by false = omega arith

-- how many events wait at a path
abbrev waits_at : Queues → PathValue → ℕ
waits_at queues path = unwrap_or (option_map length (queue_at queues path)) 0

-- .. counted either way
length-events_at : (o : Option (List Timed)) → length (unwrap_or o []) ≡ unwrap_or (option_map length o) 0
length-events_at None = refl
length-events_at (Some q) = refl

-- a removal is told only where something waited
length-overriding : (t : PathValue) (m : ℕ) (target : Option (List Timed)) →
    ((q : List Timed) → target ≡ Some q → IsNonempty q) →
    length (overriding t m target) ≤ unwrap_or (option_map length target) 0
length-overriding t m None law = omega arith
length-overriding t m (Some []) law = absurd (law [] refl)
length-overriding t m (Some (x ∷ q)) law = by (was_created (x ∷ q))
  where
    by : (b : Bool) →
        length (cond b [] (override_event t (cond (was_removed (x ∷ q)) no_attributes override_attributes)
        m ∷ [])) ≤ length (x ∷ q)
    by true = omega arith
    by false = omega arith

-- one rename is told at most
length-renaming : (o t : PathValue) (attrs : AttributesValue) (time : ℕ) (r : List Timed) →
    length (renaming o t attrs time r) ≤ 1
length-renaming o t attrs time r = by (was_created r)
  where
    by : (b : Bool) → length (cond b [] (rename_event o t attrs time ∷ [])) ≤ 1
    by true = omega arith
    by false = omega arith

-- at the target one more waits at most than waited there and came
length-arrived : (both : Option Timed) (moved : List Timed) (target : Option (List Timed)) (f t : PathValue)
    (time : ℕ) (attrs : AttributesValue) → ((q : List Timed) → target ≡ Some q → IsNonempty q) →
    length (arrived_with both moved target f t time attrs) ≤ unwrap_or (option_map length target) 0 + 1 + length
    moved
length-arrived both moved target f t time attrs law =
    let m = original_time both time in
    let lead = overriding t m target in
    let rename = renaming (original_path both f) t attrs m moved in
    let bound : length (lead ++ (rename ++ moved)) ≤ unwrap_or (option_map length target) 0 + 1 + length moved =
    omega (
      arith,
      length-append lead (rename ++ moved),
      length-append rename moved,
      length-overriding t m target law,
      length-renaming (original_path both f) t attrs m moved,
    ) in
    bound

-- what stays behind takes the place of what waited there
good-left : (queues : Queues) (f : PathValue) (n m : ℕ) (s : Option Timed) → AreGood queues n →
    ((x : Timed) → s ≡ Some x → IsFirst f (kept_by x)) → count s + waiting_in queues ≤ m + waits_at queues f →
    AreGood (left_behind queues f s) m
good-left queues f n m None g law b =
    let w = good-without queues f n g in
    record {
      kept = w.kept;
      ordered = w.ordered;
      bounded =
          omega (arith, b, sum_by-remove_entry length (is_at (path_cmp f)) queues);
    }
good-left queues f n m (Some x) g law b =
    good-set queues f (x ∷ []) n m g (queue_of_one f x (law x refl)) (omega (arith, b))

-- what waits at a path is kept by it, and has a joined rename in front at most
pub events_law : (queues : Queues) (f : PathValue) → AreQueues queues → IsKeyed f (events_at queues f)
    × IsBothInFront (events_at queues f)
events_law queues f a = by (queue_at queues f) refl
  where
    by : (o : Option (List Timed)) → queue_at queues f ≡ o → IsKeyed f (unwrap_or o [])
        × IsBothInFront (unwrap_or o [])
    by None e = (tt, tt)
    by (Some q) e = let law = found_queue queues f q a e in (law.1, law.2)

-- a joined rename keeps the laws of the queues at its two paths, and adds one event at most
pub good-halves : (queues : Queues) (f t : PathValue) (time : ℕ) (attrs : AttributesValue) (n : ℕ) →
    AreGood queues n → AreGood (joined_halves queues f t time attrs) (n + 1)
good-halves queues f t time attrs n g =
    good-set rest t (arrived events (queue_at rest t) f t time attrs) m (n + 1) left
    (arrived_law (first_both events) moved (queue_at rest t) f t time attrs (keyed-moved t (moving kept) none)
    (no_both-moved t (moving kept) none))
    (omega (
      arith,
      left.bounded,
      g.bounded,
      length-arrived (first_both events) moved (queue_at rest t) f t time
          attrs (λ q e. (found_queue rest t q left.kept e).0),
      length-map (moving kept) (at_path t),
      length-moving kept,
      length-without_both events,
      length-take-less (length waited - 1) waited,
      length-events_at (queue_at queues f),
      sum_by-remove_entry length (is_at (path_cmp f)) queues,
    ))
  where
    waited : List Timed
    waited = events_at queues f

    events : List Timed
    events = without_last waited

    kept : List Timed
    kept = without_both events

    moved : List Timed
    moved = map (at_path t) (moving kept)

    law : IsKeyed f waited × IsBothInFront waited
    law = events_law queues f g.kept

    none : HasNoBoth (moving kept)
    none = each-moving (λ x. is_both x ≡ false) kept
        (no_both-without events (in_front-take (length waited - 1) waited law.1))

    keyed : IsKeyed f kept
    keyed = each-without_both (λ x. IsFirst f (kept_by x)) events
        (each-take (λ x. IsFirst f (kept_by x)) (length waited - 1) waited law.0)

    rest : Queues
    rest = left_behind queues f (staying kept)

    m : ℕ
    m = count (staying kept) + waiting_in queues - waits_at queues f

    left : AreGood rest m
    left = good-left queues f n m (staying kept) g (λ x e. each-staying (λ y. IsFirst f (kept_by y)) kept x
        keyed e) (omega arith)
