-- What holds of each queue, and what of the queues after a push, a removal, a joined rename and a tick.
use Rattle.std.proofs.Common.{◌≡◌, ℕ, Bool, true, false, cond, not, List, [], ◌∷◌, ◌++◌, refl, sym, Option, Some, None, map, length, arith}
use Rattle.std.specs.List.{AllByRecursion}
use Rattle.std.specs.Map.{values_of}
use Rattle.std.specs.BTreeMap.{is_at}
use Rattle.std.specs.Option.{unwrap_or}
use Rattle.std.proofs.lemmas.List.Sums.{sum_by-cons}
use Rattle.notify_types.specs.Event.{Timed}
use Rattle.notify_paths.specs.Path.{PathValue, path_cmp, is_below}
use Rattle.notify_paths.specs.PathMoves.{relocated}
use Rattle.notify_paths.specs.PathLaws.{path_cmp_total}
use Rattle.notify_paths.proofs.Prefixes.{same_path}
use Rattle.debounce_model.specs.Due.{rest_after, waits, rests}
use Rattle.debounce_model.specs.Moved.{are_apart, moved_queue, moved_entry, below_of, moved_below, with_queues, moved, moved_along}
use Rattle.debounce_model.specs.Queues.{Queues, queue_at, with_queue, without_queue, without_below, was_created_at, skips, push, pushed_on, removal, events_at, waiting_in}
use Rattle.debounce_model.specs.Rename.{left_behind}
use Rattle.debounce_laws.proofs.DueLists.{each_weaken}
use Rattle.debounce_model.proofs.Entries.{each-insert_entry, each-filter, each-remove_entry, each-lookup}

-- each queue has the property, which may speak of its path
abbrev pub Each : (PathValue → List Timed → Type 0) → Queues → Type 0
Each R queues = AllByRecursion (λ e. R e.0 e.1) queues

module _ (R : PathValue → List Timed → Type 0) where
  -- with a queue set that has it
  pub each-set : (queues : Queues) (p : PathValue) (new : List Timed) → Each R queues → R p new →
      Each R (with_queue queues p new)
  each-set queues p new t h =
      each-insert_entry path_cmp_total (λ e. R e.0 e.1) queues p new t h (λ y q. rw (sym (same_path p y q)) h)

  -- without a queue
  each-without : (queues : Queues) (p : PathValue) → Each R queues → Each R (without_queue queues p)
  each-without queues p t = each-remove_entry path_cmp_total (λ e. R e.0 e.1) (is_at (path_cmp p)) queues t

  -- without those below a path
  each-above : (queues : Queues) (p : PathValue) → Each R queues → Each R (without_below queues p)
  each-above queues p t = each-filter path_cmp_total (λ e. R e.0 e.1) (λ e. not (is_below e.0 p)) queues t

  -- the queue of a path has it
  pub each-found : (queues : Queues) (p : PathValue) (q : List Timed) → Each R queues →
      queue_at queues p ≡ Some q → R p q
  each-found queues p q t h =
      let found = each-lookup path_cmp_total (λ e. R e.0 e.1) queues p q t h in
      rw (same_path p found.0 found.1) found.2

  -- .. where nothing has it, also a path without a queue
  pub each-at : (queues : Queues) (p : PathValue) → Each R queues → R p [] → R p (events_at queues p)
  each-at queues p t h = by (queue_at queues p) refl
    where
      by : (o : Option (List Timed)) → queue_at queues p ≡ o → R p (unwrap_or o [])
      by None e = h
      by (Some q) e = each-found queues p q t e

  -- after a push of what a queue may have behind it
  pub each-push : (queues : Queues) (p : PathValue) (x : Timed) → Each R queues → R p [] →
      ((q : List Timed) → R p q → R p (q ++ x ∷ [])) → Each R (push queues p x)
  each-push queues p x t none more = by (queue_at queues p) refl
    where
      by : (o : Option (List Timed)) → queue_at queues p ≡ o → Each R (pushed_on queues p x o)
      by None e = each-set queues p (x ∷ []) t (more [] none)
      by (Some q) e = at (skips q x.event.kind)
        where
          at : (b : Bool) → Each R (cond b queues (with_queue queues p (q ++ x ∷ [])))
          at true = t
          at false = each-set queues p (q ++ x ∷ []) t (more q (each-found queues p q t e))

  -- after a removal that may be alone in a queue
  pub each-removal : (queues : Queues) (p : PathValue) (x : Timed) → Each R queues → R p (x ∷ []) →
      Each R (removal queues p x)
  each-removal queues p x t h = by (was_created_at (queue_at queues p))
    where
      by : (b : Bool) →
          Each R (cond b (without_queue (without_below queues p) p)
          (with_queue (without_below queues p) p (x ∷ [])))
      by true = each-without (without_below queues p) p (each-above queues p t)
      by false = each-set (without_below queues p) p (x ∷ []) (each-above queues p t) h

  -- where what may stay alone is left behind
  pub each-left : (queues : Queues) (p : PathValue) (s : Option Timed) → Each R queues →
      ((x : Timed) → s ≡ Some x → R p (x ∷ [])) → Each R (left_behind queues p s)
  each-left queues p None t h = each-without queues p t
  each-left queues p (Some x) t h = each-set queues p (x ∷ []) t (h x refl)

  -- with queues put in that have it
  each-with_queues : (queues es : Queues) → Each R queues → Each R es → Each R (with_queues queues es)
  each-with_queues queues [] t h = t
  each-with_queues queues (e ∷ es) t h =
      each-set (with_queues queues es) e.0 e.1 (each-with_queues queues es t h.1) h.0

  module _ (f t : PathValue) (time : ℕ) (goes : (p : PathValue) (q : List Timed) → is_below p f ≡ true → R p q →
      R (relocated f t p) (moved_queue f t time q)) where
    -- what goes along has it
    each-moved_below : (queues : Queues) → Each R queues → Each R (moved_below queues f t time)
    each-moved_below [] a = tt
    each-moved_below (e ∷ queues) a = by (is_below e.0 f) refl (each-moved_below queues a.1)
      where
        by : (b : Bool) → is_below e.0 f ≡ b → Each R (moved_below queues f t time) →
            Each R (map (moved_entry f t time) (cond b (e ∷ below_of queues f) (below_of queues f)))
        by true h more = (goes e.0 e.1 h a.0, more)
        by false h more = more

    -- .. after a move all have it
    each-moved : (queues : Queues) → Each R queues → Each R (moved queues f t time)
    each-moved queues a =
        each-with_queues (without_below (without_below queues f) t) (moved_below queues f t time)
        (each-above (without_below queues f) t (each-above queues f a)) (each-moved_below queues a)

  -- .. where it is made
  pub each-along : (queues : Queues) (f t : PathValue) (time : ℕ) →
      (are_apart f t ≡ true → (p : PathValue) (q : List Timed) → is_below p f ≡ true → R p q →
      R (relocated f t p) (moved_queue f t time q)) → Each R queues → Each R (moved_along queues f t time)
  each-along queues f t time goes a = by (are_apart f t) refl
    where
      by : (b : Bool) → are_apart f t ≡ b → Each R (cond b (moved queues f t time) queues)
      by true h = each-moved f t time (goes h) queues a
      by false h = a

  -- after a tick, where the rests have it
  pub each-rested : (due : Timed → Bool) (queues : Queues) → Each (λ p q. R p (rest_after due q)) queues →
      Each R (rests due queues)
  each-rested due [] t = tt
  each-rested due (e ∷ queues) t = by (waits (rest_after due e.1)) (each-rested due queues t.1)
    where
      by : (b : Bool) → Each R (rests due queues) →
          Each R (cond b ((e.0, rest_after due e.1) ∷ rests due queues) (rests due queues))
      by true h = (t.0, h)
      by false h = h

  -- .. as they do if the queues have it
  pub each-rests : (due : Timed → Bool) (queues : Queues) →
      ((p : PathValue) (q : List Timed) → R p q → R p (rest_after due q)) → Each R queues →
      Each R (rests due queues)
  each-rests due queues less t =
      each-rested due queues
      (each_weaken (λ e. R e.0 e.1) (λ e. R e.0 (rest_after due e.1)) (λ e h. less e.0 e.1 h) queues t)

  -- where nothing waits each queue is empty, and has it if an empty one does
  pub each-none : (queues : Queues) → ((p : PathValue) → R p []) → waiting_in queues ≡ 0 → Each R queues
  each-none [] none h = tt
  each-none (e ∷ queues) none h = (
    by e.1 (omega (arith, sum_by-cons length e.1 (values_of queues))),
    each-none queues none (omega (arith, sum_by-cons length e.1 (values_of queues))),
  )
    where
      by : (xs : List Timed) → length xs ≡ 0 → R e.0 xs
      by [] l = none e.0
      by (x ∷ xs) l = absurd (omega arith)
