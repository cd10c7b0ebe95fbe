-- What an event and a tick keep of a state: the laws in the type of the core.
use Rattle.std.proofs.Common.{◌≡◌, ℕ, ◌+◌, ◌≤◌, ◌<◌, Bool, true, false, ◌||◌, cond, List, [], ◌∷◌, ◌++◌, refl, ap, sym, ◌∙◌, Option, Some, None, true≢false, arith, length, length-append}
use Rattle.std.specs.Map.{values_of}
use Rattle.std.specs.List.{list_any}
use Rattle.std.proofs.lemmas.List.Sums.{sum_by-cons}
use Rattle.std.proofs.lemmas.List.Sorted.{length_permutation}
use Rattle.std.proofs.lemmas.List.{length-map}
use Rattle.notify_types.specs.Event.{EventValue, Timed, first_of}
use Rattle.notify_types.specs.KindNumbers.{kind_eq}
use Rattle.notify_types.specs.Kinds.{is_removal}
use Rattle.notify_paths.specs.Path.{PathValue}
use Rattle.notify_paths.specs.PathLaws.{path_cmp_total}
use Rattle.debounce_model.specs.declared.case.Case.{Case}
use Rattle.debounce_model.specs.declared.case.Case.TheVariants.{Rescan, Creation, Removal, RenameFrom, RenameTo, Plain, Ignored}
use Rattle.debounce_model.specs.declared.file_id.FileId.{FileId}
use Rattle.debounce_model.specs.Due.{last_of_kind, expired_beginning, rest_after, rests, place_list, waits, is_any_due}
use Rattle.debounce_model.specs.Order.{InBatchOrder, placed}
use Rattle.debounce_model.specs.Queues.{Queues, waiting_in}
use Rattle.debounce_model.specs.Rename.{is_both}
use Rattle.debounce_model.specs.RenameSlot.{first_half}
use Rattle.debounce_model.specs.State.{State, held}
use Rattle.debounce_model.specs.Table.{case_of, FitsCase, renamed_to, raised_event, taken_as, taken_step, event_step}
use Rattle.debounce_model.specs.Tick.{due_of, rest_of, state_places, is_slot_due, is_expired_in, ticked_state, IsBatch}
use Rattle.debounce_model.specs.WellFormed.{IsFirst, IsKeyed, IsNonempty, HasNoBoth, IsBothInFront, AreQueues, IsWellFormed}
use Rattle.debounce_model.proofs.Entries.{sorted-changed}
use Rattle.debounce_model.proofs.GoodQueues.{IsBothFirst, IsBothBehind, AreGood, good-more, good-push, good-removal}
use Rattle.debounce_model.proofs.OrderLemmas.{length-placed}
use Rattle.debounce_model.proofs.QueueLemmas.{quiet}
use Rattle.debounce_model.proofs.TableLemmas.{first_is, case_fits}
use Rattle.debounce_model.proofs.MovedLemmas.{good-joined}

-- queues are good after the second half of a rename
good-renamed : (queues : Queues) (path : PathValue) (x : Timed) (half : Option (PathValue × ℕ)) (n : ℕ) →
    AreGood queues n → is_both x ≡ false → IsFirst path x.event.paths →
    AreGood (renamed_to queues path x half) (n + 1)
good-renamed queues path x None n g b f = good-push queues path x n g b f
good-renamed queues path x (Some (from, time)) n g b f = good-joined queues from path time x.event.attrs n g

-- a state with one more event taken keeps the laws, where its queues are good and the rescan slot holds no more
one_more : (s t : State) → IsWellFormed s → AreGood t.queues (waiting_in s.queues + 1) →
    t.rescan_slot ≡ s.rescan_slot → t.given ≡ s.given → t.taken ≡ s.taken + 1 → IsWellFormed t
one_more s t w g r h k = record {
  queues = g.kept;
  ordered = g.ordered;
  bounded =
      rw (r, h, k) (omega (arith, g.bounded, w.bounded));
}

-- an event that is taken in its case keeps the laws of a state
well_formed-as : (case : Case) (s : State) (x : Timed) (answer : Option FileId) → FitsCase case x.event →
    IsWellFormed s → IsWellFormed (taken_as case s x answer)
well_formed-as case s x answer fits w = by case fits
  where
    n : ℕ
    n = waiting_in s.queues

    path : PathValue
    path = first_of x.event.paths

    good : AreGood s.queues n
    good = record { kept = w.queues; ordered = w.ordered; bounded = omega arith }

    first : 0 < length x.event.paths → IsFirst path x.event.paths
    first h = first_is x.event.paths h

    by : (c : Case) → FitsCase c x.event → IsWellFormed (taken_as c s x answer)
    by Rescan h = record { queues = w.queues; ordered = w.ordered; bounded = omega (arith, w.bounded) }
    by Creation h = one_more s _ w (good-push s.queues path x n good h.1 (first h.0)) refl refl refl
    by Removal h = one_more s _ w (good-removal s.queues path x n good h.1 (first h.0)) refl refl refl
    by RenameFrom h = one_more s _ w (good-push s.queues path x n good h.1 (first h.0)) refl refl refl
    by RenameTo h =
        one_more s _ w (good-renamed s.queues path x (first_half s.rename_slot x.event answer) n good h.1
        (first h.0)) refl refl refl
    by Plain h = one_more s _ w (good-push s.queues path x n good h.1 (first h.0)) refl refl refl
    by Ignored h = one_more s _ w (good-more s.queues n (n + 1) good (omega arith)) refl refl refl

-- .. also a state that has the same queues, rescan slot and counts
pub well_formed_after : (case : Case) (s t : State) (x : Timed) (answer : Option FileId) →
    FitsCase case x.event → IsWellFormed s → t.queues ≡ (taken_as case s x answer).queues →
    t.rescan_slot ≡ (taken_as case s x answer).rescan_slot → t.given ≡ (taken_as case s x answer).given →
    t.taken ≡ s.taken + 1 → IsWellFormed t
well_formed_after case s t x answer fits w queues slot given taken =
    let v = well_formed-as case s x answer fits w in
    record {
      queues = rw queues v.queues;
      ordered = rw queues v.ordered;
      bounded =
          rw (queues, slot, given, taken) v.bounded;
    }

-- an event that is taken at its time keeps the laws of a state
pub well_formed-taken : (s : State) (x : Timed) (exists : Bool) (answer : Option FileId) → IsWellFormed s →
    IsWellFormed (taken_step s x exists answer)
well_formed-taken s x exists answer w =
    well_formed-as (case_of x.event exists) s x answer (case_fits x exists) w

-- .. at the moment to which it is raised
pub well_formed_event : (s : State) (event : EventValue) (now : ℕ) (exists : Bool) (answer : Option FileId) →
    IsWellFormed s → IsWellFormed (event_step s event now exists answer)
well_formed_event s event now exists answer w = well_formed-taken s (raised_event s event now) exists answer w

-- the last of each kind are no more than all
length-last_of_kind : (xs : List Timed) → length (last_of_kind xs) ≤ length xs
length-last_of_kind [] = omega arith
length-last_of_kind (x ∷ xs) =
    by (list_any (λ y. kind_eq x.event.kind y.event.kind) xs) (length-last_of_kind xs)
  where
    by : (b : Bool) → length (last_of_kind xs) ≤ length xs →
        length (cond b (last_of_kind xs) (x ∷ last_of_kind xs)) ≤ length (x ∷ xs)
    by true h = omega arith
    by false h = omega arith

-- the beginning and the rest together are the queue
length-cut : (due : Timed → Bool) (xs : List Timed) →
    length (expired_beginning due xs) + length (rest_after due xs) ≡ length xs
length-cut due [] = omega arith
length-cut due (x ∷ xs) = by (due x) (length-cut due xs)
  where
    by : (b : Bool) → length (expired_beginning due xs) + length (rest_after due xs) ≡ length xs →
        length (cond b (x ∷ expired_beginning due xs) []) + length (cond b (rest_after due xs) (x ∷ xs))
        ≡ length (x ∷ xs)
    by true h = omega arith
    by false h = omega arith

-- what is handed out and what waits on are no more than what waited
tick-bound : (due : Timed → Bool) (queues : Queues) →
    length (place_list due queues) + waiting_in (rests due queues) ≤ waiting_in queues
tick-bound due [] = omega arith
tick-bound due (e ∷ queues) = by (waits (rest_after due e.1)) refl (tick-bound due queues)
  where
    by : (b : Bool) → waits (rest_after due e.1) ≡ b →
        length (place_list due queues) + waiting_in (rests due queues) ≤ waiting_in queues →
        length (last_of_kind (expired_beginning due e.1) ++ place_list due queues) + waiting_in
        (cond b ((e.0, rest_after due e.1) ∷ rests due queues) (rests due queues)) ≤ waiting_in (e ∷ queues)
    by true w more =
        omega (
          arith,
          length-append (last_of_kind (expired_beginning due e.1)) (place_list due queues),
          length-last_of_kind (expired_beginning due e.1),
          length-cut due e.1,
          sum_by-cons length e.1 (values_of queues),
          sum_by-cons length (rest_after due e.1) (values_of (rests due queues)),
        )
    by false w more =
        omega (
          arith,
          length-append (last_of_kind (expired_beginning due e.1)) (place_list due queues),
          length-last_of_kind (expired_beginning due e.1),
          length-cut due e.1,
          sum_by-cons length e.1 (values_of queues),
        )

-- the rest of a keyed queue is keyed
keyed-rest : (due : Timed → Bool) (p : PathValue) (xs : List Timed) → IsKeyed p xs →
    IsKeyed p (rest_after due xs)
keyed-rest due p [] k = k
keyed-rest due p (x ∷ xs) k = by (due x) (keyed-rest due p xs k.1)
  where
    by : (b : Bool) → IsKeyed p (rest_after due xs) → IsKeyed p (cond b (rest_after due xs) (x ∷ xs))
    by true h = h
    by false h = k

-- without joined renames none stands behind the front
in_front-less : (xs : List Timed) → HasNoBoth xs → IsBothInFront xs
in_front-less [] k = tt
in_front-less (x ∷ xs) k = by (is_removal x.event.kind) (first xs k.1)
  where
    first : (ys : List Timed) → HasNoBoth ys → IsBothFirst ys
    first [] k = tt
    first (y ∷ ys) k = k.1

    by : (b : Bool) → IsBothFirst xs → IsBothBehind b xs
    by true f = f
    by false f = k.1

-- a joined rename stays in front without the first event
in_front-tail : (x : Timed) (xs : List Timed) → IsBothInFront (x ∷ xs) → IsBothInFront xs
in_front-tail x xs k = by (is_removal x.event.kind) k
  where
    behind : (ys : List Timed) → IsBothFirst ys → IsBothInFront ys
    behind [] k = tt
    behind (y ∷ ys) k = at (is_removal y.event.kind) (in_first ys k)
      where
        in_first : (zs : List Timed) → HasNoBoth zs → IsBothFirst zs
        in_first [] k = tt
        in_first (z ∷ zs) k = k.1

        at : (b : Bool) → IsBothFirst ys → IsBothBehind b ys
        at true f = f
        at false f = k

    by : (b : Bool) → IsBothBehind b xs → IsBothInFront xs
    by true k = behind xs k
    by false k = in_front-less xs k

-- .. in the rest
in_front-rest : (due : Timed → Bool) (xs : List Timed) → IsBothInFront xs → IsBothInFront (rest_after due xs)
in_front-rest due [] k = k
in_front-rest due (x ∷ xs) k = by (due x) (in_front-rest due xs (in_front-tail x xs k))
  where
    by : (b : Bool) → IsBothInFront (rest_after due xs) → IsBothInFront (cond b (rest_after due xs) (x ∷ xs))
    by true h = h
    by false h = k

-- a queue that waits for something is not empty
nonempty-waits : (q : List Timed) → waits q ≡ true → IsNonempty q
nonempty-waits [] h = cc
nonempty-waits (x ∷ q) h = tt

-- the rests of queues are queues
pub kept-rests : (due : Timed → Bool) (queues : Queues) → AreQueues queues → AreQueues (rests due queues)
kept-rests due [] a = a
kept-rests due (e ∷ queues) a = by (waits (rest_after due e.1)) refl (kept-rests due queues a.1)
  where
    by : (b : Bool) → waits (rest_after due e.1) ≡ b → AreQueues (rests due queues) →
        AreQueues (cond b ((e.0, rest_after due e.1) ∷ rests due queues) (rests due queues))
    by true w h =
        ((nonempty-waits (rest_after due e.1) w, keyed-rest due e.0 e.1 a.0.1, in_front-rest due e.1 a.0.2), h)
    by false w h = h

-- a batch is as long as its place list
pub length-in_order : (xs ys : List Timed) → InBatchOrder xs ys → length ys ≡ length xs
length-in_order xs ys o = ap length (sym o.events) ∙ length-map o.ranked (λ k. k.event)
    ∙ length_permutation (placed [] xs) o.ranked o.are ∙ length-placed [] xs

-- the event of a slot is due or stays
held-cut : (due : Timed → Bool) (slot : Option Timed) → length (due_of due slot) + held (rest_of due slot)
    ≡ held slot
held-cut due None = omega arith
held-cut due (Some x) = by (due x)
  where
    by : (b : Bool) → length (cond b (x ∷ []) []) + held (cond b None (Some x)) ≡ 1
    by true = omega arith
    by false = omega arith

-- a tick keeps the laws of a state
pub well_formed-tick : (s : State) (now : ℕ) (batch : List Timed) → IsWellFormed s → IsBatch s now batch →
    IsWellFormed (ticked_state s now batch)
well_formed-tick s now batch w b = record {
  queues = kept-rests (is_expired_in s now) s.queues w.queues;
  ordered = sorted-changed path_cmp_total (rest_after (is_expired_in s now))
      (λ q. waits (rest_after (is_expired_in s now) q)) s.queues w.ordered;
  bounded = omega (
    arith,
    w.bounded,
    tick-bound (is_expired_in s now) s.queues,
    held-cut (is_expired_in s now) s.rescan_slot,
    length-append (due_of (is_expired_in s now) s.rescan_slot)
        (place_list (is_expired_in s now) s.queues),
    length-in_order (state_places (is_expired_in s now) s) batch b,
  );
}

-- a slot whose event is not due keeps it
quiet_slot : (due : Timed → Bool) (slot : Option Timed) → is_slot_due due slot ≡ false → (due_of due slot ≡ [])
    × (rest_of due slot ≡ slot)
quiet_slot due None h = (refl, refl)
quiet_slot due (Some x) h = (rw h refl, rw h refl)

-- where nothing is due, nothing is handed out and everything waits on
pub quiet_state : (due : Timed → Bool) (s : State) → AreQueues s.queues →
    (is_slot_due due s.rescan_slot || is_any_due due s.queues) ≡ false → (state_places due s ≡ [])
    × (rests due s.queues ≡ s.queues) × (rest_of due s.rescan_slot ≡ s.rescan_slot)
quiet_state due s a h = by (is_slot_due due s.rescan_slot) refl h
  where
    by : (b : Bool) → is_slot_due due s.rescan_slot ≡ b → (b || is_any_due due s.queues) ≡ false →
        (state_places due s ≡ []) × (rests due s.queues ≡ s.queues) × (rest_of due s.rescan_slot ≡ s.rescan_slot)
    by true e h = absurd (true≢false h)
    by false e h =
        let slot = quiet_slot due s.rescan_slot e in
        let queues = quiet due s.queues a h in
        (rw (slot.0, queues.0) refl, queues.1, slot.1)
