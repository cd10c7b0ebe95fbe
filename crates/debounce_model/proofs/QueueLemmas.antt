-- Laws of the queues, which the core and the laws of states cite.
use Rattle.std.specs.Prelude.{if◌then◌else◌}
use Rattle.std.proofs.Common.{rules, ◌≡◌, ℕ, Bool, true, false, cond, List, [], ◌∷◌, ◌++◌, refl, ap, sym, ◌∙◌, Some, None, not, ◌&&◌}
use Rattle.std.specs.Map.{set_value, keys_of}
use Rattle.std.proofs.Common.{◌+◌, ◌<◌, suc, length, get_or, take, drop, add-one, append_assoc, drop-cons}
use Rattle.std.proofs.Math.Seq.{take-suc}
use Rattle.std.specs.BTreeMap.{is_at}
use Rattle.std.specs.List.Sorted.{IsStrictlySortedBy}
use Rattle.std.proofs.lemmas.Map.Steps.{set_value_same}
use Rattle.notify_paths.specs.Path.{PathValue, path_cmp, is_prefix, is_below}
use Rattle.notify_paths.specs.PathLaws.{path_cmp_total, path_eq_equiv}
use Rattle.notify_types.specs.Event.{Timed}
use Rattle.debounce_model.specs.Due.{expired_beginning, rest_after, last_of_kind, place_list, rests, waits, is_front_due, is_any_due}
use Rattle.debounce_model.specs.Queues.{Queues, queue_at, push, appended, skips, with_queue, without_queue, without_below, was_created_at, removal}
use Rattle.debounce_model.specs.WellFormed.{AreQueues, IsNonempty}
use Rattle.notify_types.specs.KindNumbers.{kind_eq}
use Rattle.std.specs.List.{list_any}
use Rattle.notify_paths.proofs.Prefixes.{same_path}
use Rattle.debounce_model.proofs.Entries.{insert_over, filter-insert_entry}

-- a queue that takes an event is where `push` leaves it
pub push_appended : (queues : Queues) (path : PathValue) (x : Timed) (q : List Timed) →
    IsStrictlySortedBy path_cmp (keys_of queues) → queue_at queues path ≡ Some q →
    set_value (is_at (path_cmp path)) queues (appended q x) ≡ push queues path x
push_appended queues path x q s h = rw h (by (skips q x.event.kind))
  where
    by : (b : Bool) → set_value (is_at (path_cmp path)) queues (cond b q (q ++ x ∷ []))
        ≡ cond b queues (with_queue queues path (q ++ x ∷ []))
    by true = set_value_same (is_at (path_cmp path)) queues q h
    by false = sym (insert_over path_cmp_total queues path q (q ++ x ∷ []) s h)

-- no path lies strictly below itself
not_below_itself : (p : PathValue) → not (is_below p p) ≡ true
not_below_itself p = rw (path_eq_equiv.refl p) (by (is_prefix p p))
  where
    by : (b : Bool) → not (b && false) ≡ true
    by true = refl
    by false = refl

-- a queue may be put at a path before what lies below the path is dropped
pub put_before_drop : (queues : Queues) (path : PathValue) (q : List Timed) →
    IsStrictlySortedBy path_cmp (keys_of queues) → without_below (with_queue queues path q) path
    ≡ with_queue (without_below queues path) path q
put_before_drop queues path q s =
    filter-insert_entry path_cmp_total (λ k. not (is_below k path)) queues path q s (not_below_itself path)
    (λ y e. rw (sym (same_path path y e)) (not_below_itself path))

-- a removal of what wasn't created waits in the place of its path's queue
pub removal_of_others : (queues : Queues) (path : PathValue) (x : Timed) → was_created_at (queue_at queues path)
    ≡ false → with_queue (without_below queues path) path (x ∷ []) ≡ removal queues path x
removal_of_others queues path x h = rw h refl

-- a removal of what was created takes it out
pub removal_of_created : (queues : Queues) (path : PathValue) (x : Timed) →
    was_created_at (queue_at queues path) ≡ true → without_queue (without_below queues path) path
    ≡ removal queues path x
removal_of_created queues path x h = rw h refl

-- one more due event
pub beginning-more : (due : Timed → Bool) (xs : List Timed) (i : ℕ) (x : Timed) → i < length xs →
    x ≡ get_or xs i x → due x ≡ true → (take (i + 1) xs ++ expired_beginning due (drop (i + 1) xs) ≡ take i xs
    ++ expired_beginning due (drop i xs)) × (rest_after due (drop (i + 1) xs) ≡ rest_after due (drop i xs))
beginning-more due xs i x h is old =
    let cut : drop i xs ≡ x ∷ drop (i + 1) xs =
    rw add-one (drop-cons xs i x h ∙ ap (λ y. y ∷ drop (suc i) xs) (sym is)) in
    let front : take (i + 1) xs ≡ take i xs ++ x ∷ [] =
    rw add-one (take-suc xs i x h ∙ ap (λ y. take i xs ++ y ∷ []) (sym is)) in (
      rw (cut, front, old, append_assoc) refl,
      rw (cut, old) refl,
    )

-- no more due events
pub beginning-end : (due : Timed → Bool) (xs : List Timed) (i : ℕ) (x : Timed) → i < length xs →
    x ≡ get_or xs i x → due x ≡ false → (expired_beginning due (drop i xs) ≡ [])
    × (rest_after due (drop i xs) ≡ drop i xs)
beginning-end due xs i x h is young =
    let cut : drop i xs ≡ x ∷ drop (i + 1) xs =
    rw add-one (drop-cons xs i x h ∙ ap (λ y. y ∷ drop (suc i) xs) (sym is)) in
    (rw (cut, young) refl, rw (cut, young) refl)

-- the event, unless one of these has its kind
abbrev pub unless_later : Timed → List Timed → List Timed
unless_later x xs = if list_any (λ y. kind_eq x.event.kind y.event.kind) xs then [] else x ∷ []

-- one more event of a queue
pub last_of_kind-more : (xs : List Timed) (i : ℕ) (x : Timed) → i < length xs → x ≡ get_or xs i x →
    last_of_kind (drop i xs) ≡ unless_later x (drop (i + 1) xs) ++ last_of_kind (drop (i + 1) xs)
last_of_kind-more xs i x h is =
    let cut : drop i xs ≡ x ∷ drop (i + 1) xs =
    rw add-one (drop-cons xs i x h ∙ ap (λ y. y ∷ drop (suc i) xs) (sym is)) in
    ap last_of_kind cut ∙ by (list_any (λ y. kind_eq x.event.kind y.event.kind) (drop (i + 1) xs))
  where
    by : (b : Bool) → cond b (last_of_kind (drop (i + 1) xs)) (x ∷ last_of_kind (drop (i + 1) xs))
        ≡ cond b [] (x ∷ []) ++ last_of_kind (drop (i + 1) xs)
    by true = refl
    by false = refl

-- a push where the path has no queue
pub push-new : (queues : Queues) (path : PathValue) (x : Timed) → queue_at queues path ≡ None →
    with_queue queues path (x ∷ []) ≡ push queues path x
push-new queues path x h = rw h refl

-- a queue whose front is not due
quiet_queue : (due : Timed → Bool) (q : List Timed) → IsNonempty q → is_front_due due q ≡ false →
    (last_of_kind (expired_beginning due q) ≡ []) × (rest_after due q ≡ q) × (waits q ≡ true)
quiet_queue due [] e h = absurd e
quiet_queue due (x ∷ q) e h = (rw h refl, rw h refl, search rules)

-- where no front is due, nothing is handed out and everything waits on
pub quiet : (due : Timed → Bool) (queues : Queues) → AreQueues queues → is_any_due due queues ≡ false →
    (place_list due queues ≡ []) × (rests due queues ≡ queues)
quiet due [] a h = (refl, refl)
quiet due (e ∷ queues) a h = by (is_front_due due e.1) refl (quiet due queues a.1)
  where
    by : (b : Bool) → is_front_due due e.1 ≡ b →
        (is_any_due due queues ≡ false → (place_list due queues ≡ []) × (rests due queues ≡ queues)) →
        (place_list due (e ∷ queues) ≡ []) × (rests due (e ∷ queues) ≡ e ∷ queues)
    by true b more = let no : true ≡ false = rw b at h in cc
    by false b more =
        let later : is_any_due due queues ≡ false = rw b at h in
        let rest = more later in
        let here = quiet_queue due e.1 a.0.0 b in
        (rw (here.0, rest.0) refl, rw (here.1, here.2, rest.1) refl)
