-- What holds of each event that waits, with the path of its queue: a push, a removal and a tick keep it.
use Rattle.std.proofs.Common.{◌≡◌, Bool, true, false, cond, not, ◌⊎◌, inl, inr, List, [], ◌∷◌, ◌++◌, Option, Some, None, refl, sym, subst}
use Rattle.std.specs.Map.{keys_of}
use Rattle.std.specs.BTreeMap.{is_at}
use Rattle.std.specs.List.{AllByRecursion}
use Rattle.std.specs.List.Sorted.{IsStrictlySortedBy}
use Rattle.notify_types.specs.Event.{Timed}
use Rattle.notify_paths.specs.Path.{PathValue, path_cmp, is_below}
use Rattle.notify_paths.specs.PathLaws.{path_cmp_total}
use Rattle.debounce_model.specs.Due.{rests}
use Rattle.debounce_model.specs.Queues.{Queues, queue_at, push, pushed_on, skips, with_queue, without_queue, without_below, removal, was_created_at, events_at}
use Rattle.debounce_laws.proofs.EachQueue.{Each, each-at, each-push, each-removal, each-rests}
use Rattle.debounce_laws.proofs.DueLists.{each_push, each_late}
use Rattle.debounce_model.proofs.Entries.{sorted-insert_entry, sorted-filter, sorted-remove_entry}
use Rattle.debounce_laws.proofs.PathSets.{tied_to_itself, same_or_not, not_tied}
use Rattle.debounce_laws.proofs.QueueReads.{none_behind, sorted_behind}

-- it holds of each event of each queue
abbrev pub AllWaiting : (PathValue → Timed → Type 0) → Queues → Type 0
AllWaiting P queues = Each (λ p. AllByRecursion (P p)) queues

module _ (P : PathValue → Timed → Type 0) where
  -- it holds of each event of what waits at a path
  pub all-at : (queues : Queues) (p : PathValue) → AllWaiting P queues →
      AllByRecursion (P p) (events_at queues p)
  all-at queues p a = each-at (λ q. AllByRecursion (P q)) queues p a tt

  -- .. after a push
  pub all-push : (queues : Queues) (p : PathValue) (x : Timed) → AllWaiting P queues → P p x →
      AllWaiting P (push queues p x)
  all-push queues p x a h =
      each-push (λ q. AllByRecursion (P q)) queues p x a tt (λ q b. each_push (P p) q x b h)

  -- .. after a removal
  pub all-removal : (queues : Queues) (p : PathValue) (x : Timed) → AllWaiting P queues → P p x →
      AllWaiting P (removal queues p x)
  all-removal queues p x a h = each-removal (λ q. AllByRecursion (P q)) queues p x a (h, tt)

  -- .. after a tick
  pub all-rests : (due : Timed → Bool) (queues : Queues) → AllWaiting P queues → AllWaiting P (rests due queues)
  all-rests due queues a = each-rests (λ q. AllByRecursion (P q)) due queues (λ p q b. each_late due (P p) q b)
      a

-- after a push the queues are in order
pub sorted_push : (queues : Queues) (p : PathValue) (x : Timed) → IsStrictlySortedBy path_cmp (keys_of queues) →
    IsStrictlySortedBy path_cmp (keys_of (push queues p x))
sorted_push queues p x s = by (queue_at queues p)
  where
    by : (o : Option (List Timed)) → IsStrictlySortedBy path_cmp (keys_of (pushed_on queues p x o))
    by None = sorted-insert_entry path_cmp_total queues p (x ∷ []) s
    by (Some q) = at (skips q x.event.kind)
      where
        at : (b : Bool) →
            IsStrictlySortedBy path_cmp (keys_of (cond b queues (with_queue queues p (q ++ x ∷ []))))
        at true = s
        at false = sorted-insert_entry path_cmp_total queues p (q ++ x ∷ []) s

-- after a removal the queues are in order
pub sorted_removal : (queues : Queues) (p : PathValue) (x : Timed) →
    IsStrictlySortedBy path_cmp (keys_of queues) → IsStrictlySortedBy path_cmp (keys_of (removal queues p x))
sorted_removal queues p x s = by (was_created_at (queue_at queues p))
  where
    left : IsStrictlySortedBy path_cmp (keys_of (without_below queues p))
    left = sorted-filter path_cmp_total (λ e. not (is_below e.0 p)) queues s

    by : (b : Bool) →
        IsStrictlySortedBy path_cmp
        (keys_of (cond b (without_queue (without_below queues p) p)
        (with_queue (without_below queues p) p (x ∷ []))))
    by true = sorted-remove_entry path_cmp_total (is_at (path_cmp p)) (without_below queues p) left
    by false = sorted-insert_entry path_cmp_total (without_below queues p) p (x ∷ []) left

-- what holds at each path of what waits there holds of each queue
pub each_queue : (P : PathValue → List Timed → Type 0) (queues : Queues) → ((p : PathValue) → P p []) →
    IsStrictlySortedBy path_cmp (keys_of queues) → ((p : PathValue) → P p (events_at queues p)) →
    AllByRecursion (λ e. P e.0 e.1) queues
each_queue P [] none s h = tt
each_queue P (e ∷ queues) none s h = (
  subst (P e.0) own (h e.0),
  each_queue P queues none (sorted_behind e queues s) (λ p. by p (same_or_not e.0 p)),
)
  where
    own : events_at (e ∷ queues) e.0 ≡ e.1
    own = rw (tied_to_itself e.0) refl

    other : (p : PathValue) → (p ≡ e.0 → ⊥) → events_at (e ∷ queues) p ≡ events_at queues p
    other p n = rw (not_tied p e.0 n) refl

    by : (p : PathValue) → (p ≡ e.0) ⊎ (p ≡ e.0 → ⊥) → P p (events_at queues p)
    by p (inl q) =
        subst (λ z. P z (events_at queues z)) (sym q) (subst (P e.0) (sym (none_behind e queues s)) (none e.0))
    by p (inr n) = subst (P p) (other p n) (h p)
