-- One queue is trimmed: what that leaves due, and what it keeps.
use Rattle.std.proofs.Common.{◌≡◌, ◌+◌, Bool, true, false, refl, ap, ◌∙◌, Option, Some, None, List, true≢false, sym}
use Rattle.std.specs.Prelude.{if◌then◌else◌}
use Rattle.std.specs.BTreeMap.{is_at}
use Rattle.std.specs.List.Sorted.{IsStrictlySortedBy}
use Rattle.std.specs.Map.{keys_of, set_value, remove_entry}
use Rattle.notify_paths.specs.Path.{PathValue, path_cmp}
use Rattle.notify_paths.specs.PathLaws.{path_cmp_total}
use Rattle.notify_types.specs.Event.{Timed}
use Rattle.debounce_model.specs.Queues.{Queues, queue_at}
use Rattle.debounce_model.specs.Due.{due_fronts, rest_after, rests, waits}
use Rattle.debounce_model.specs.WellFormed.{IsNonempty}
use Rattle.debounce_model.proofs.DueCounts.{count-set, count-gone}
use Rattle.debounce_model.proofs.Entries.{each-remove_entry, insert_over, sorted-insert_entry, sorted-remove_entry}
use Rattle.debounce_queues.specs.declared.due.Due.{Due}
use Rattle.debounce_queues.specs.Due.{is_due}
use Rattle.debounce_queues.specs.Steps.{AreFilled, is_due_front, trimmed_at, trimmed_by}
use Rattle.debounce_queues.proofs.FrontTicks.{filled-set, others_stay, rest_quiet, rests-gone, rests-set, set_found, trim_gone, trim_set, waits_nonempty}

-- a queue whose front is due is there
pub due_there : (due : Due) (o : Option (List Timed)) → is_due_front due o ≡ true →
    (q : List Timed) × (o ≡ Some q)
due_there due None h = absurd (true≢false (sym h))
due_there due (Some q) h = (q, refl)

module _ (due : Due) (m n : Queues) (path : PathValue) (q : List Timed)
    (ordered : IsStrictlySortedBy path_cmp (keys_of m)) (there : queue_at m path ≡ Some q) (is : n
    ≡ trimmed_at due m path) where
  -- the queues then, by whether something is left
  then_is : (b : Bool) → waits (rest_after (is_due due) q) ≡ b →
      n ≡ (if b then set_value (is_at (path_cmp path)) m (rest_after (is_due due) q)
      else remove_entry (is_at (path_cmp path)) m)
  then_is true w = is ∙ ap (trimmed_by due m path) there
      ∙ rw w (insert_over path_cmp_total m path q (rest_after (is_due due) q) ordered there)
  then_is false w = is ∙ ap (trimmed_by due m path) there ∙ rw w refl

  -- what is left in the end is the same
  pub step_rests : rests (is_due due) n ≡ rests (is_due due) m
  step_rests = by (waits (rest_after (is_due due) q)) refl
    where
      by : (b : Bool) → waits (rest_after (is_due due) q) ≡ b → rests (is_due due) n ≡ rests (is_due due) m
      by true w = ap (rests (is_due due)) (then_is true w)
          ∙ rests-set (is_due due) m (is_at (path_cmp path)) q there
      by false w = ap (rests (is_due due)) (then_is false w)
          ∙ rests-gone (is_due due) m (is_at (path_cmp path)) q there w

  -- it is not due any more
  pub step_trimmed : (p : PathValue) → is_due_front due (queue_at n p)
      ≡ (if is_at (path_cmp path) p then false else is_due_front due (queue_at m p))
  step_trimmed p = by (waits (rest_after (is_due due) q)) refl
    where
      by : (b : Bool) → waits (rest_after (is_due due) q) ≡ b → is_due_front due (queue_at n p)
          ≡ (if is_at (path_cmp path) p then false else is_due_front due (queue_at m p))
      by true w = trim_set due m n path q ordered there (then_is true w) p
      by false w = trim_gone due m n path ordered (then_is false w) p

  -- the others are as they were
  pub step_others : (p : PathValue) → is_at (path_cmp path) p ≡ false → queue_at n p ≡ queue_at m p
  step_others p apart = by (waits (rest_after (is_due due) q)) refl
    where
      by : (b : Bool) → waits (rest_after (is_due due) q) ≡ b → queue_at n p ≡ queue_at m p
      by true w = ap (λ z. queue_at z p) (then_is true w)
          ∙ set_found m path q (rest_after (is_due due) q) ordered there p ∙ rw apart refl
      by false w = others_stay m n path ordered (then_is false w) p apart

  -- the paths ascend
  pub step_ordered : IsStrictlySortedBy path_cmp (keys_of n)
  step_ordered = rw (is ∙ ap (trimmed_by due m path) there) (by (waits (rest_after (is_due due) q)) refl)
    where
      by : (b : Bool) → waits (rest_after (is_due due) q) ≡ b →
          IsStrictlySortedBy path_cmp (keys_of (trimmed_by due m path (Some q)))
      by true w = rw w (sorted-insert_entry path_cmp_total m path (rest_after (is_due due) q) ordered)
      by false w = rw w (sorted-remove_entry path_cmp_total (is_at (path_cmp path)) m ordered)

  -- no queue is empty
  pub step_filled : AreFilled m → AreFilled n
  step_filled f = by (waits (rest_after (is_due due) q)) refl
    where
      by : (b : Bool) → waits (rest_after (is_due due) q) ≡ b → AreFilled n
      by true w = rw (then_is true w) (filled-set m (is_at (path_cmp path)) (rest_after (is_due due) q) f
          (waits_nonempty (rest_after (is_due due) q) w))
      by false w =
          rw (then_is false w) (each-remove_entry path_cmp_total (λ e. IsNonempty e.1) (is_at (path_cmp path)) m
          f)

  -- one fewer is due, if it was
  pub step_counted : is_due_front due (queue_at m path) ≡ true → due_fronts (is_due due) m
      ≡ due_fronts (is_due due) n + 1
  step_counted d = by (waits (rest_after (is_due due) q)) refl
    where
      by : (b : Bool) → waits (rest_after (is_due due) q) ≡ b → due_fronts (is_due due) m
          ≡ due_fronts (is_due due) n + 1
      by true w = rw (then_is true w) (count-set (is_due due) m (is_at (path_cmp path)) q
          (rest_after (is_due due) q) there (sym (ap (is_due_front due) there) ∙ d) (rest_quiet (is_due due) q))
      by false w =
          rw (then_is false w) (count-gone (is_due due) m (is_at (path_cmp path)) q there
          (sym (ap (is_due_front due) there) ∙ d))
