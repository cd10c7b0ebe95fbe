-- What waits at each path after a push, a removal and a tick.
use Rattle.std.proofs.Common.{rules, ◌≡◌, Bool, true, false, cond, not, ◌&&◌, List, [], ◌∷◌, ◌++◌, Option, Some, None, unwrap_or, refl, sym, ap, subst, ◌∙◌, true≢false, Less, is_eq}
use Rattle.std.specs.Map.{keys_of}
use Rattle.std.specs.BTreeMap.{is_at}
use Rattle.std.specs.List.{AllByRecursion}
use Rattle.std.specs.List.Sorted.{IsStrictlySortedBy}
use Rattle.std.proofs.lemmas.Map.Entries.{lookup-filter-keys}
use Rattle.notify_types.specs.Event.{Timed}
use Rattle.notify_paths.specs.Path.{PathValue, path_cmp, path_eq, is_prefix, is_below}
use Rattle.notify_paths.specs.PathLaws.{path_cmp_total, path_eq_decides}
use Rattle.debounce_model.specs.Due.{rest_after, rests, waits}
use Rattle.debounce_model.specs.Queues.{Queues, queue_at, push, pushed_on, skips, with_queue, without_queue, without_below, removal, was_created, was_created_at, events_at}
use Rattle.debounce_model.proofs.Entries.{lookup-insert_same, lookup-insert_other, lookup-remove_same, lookup-remove_other, sorted-filter}
use Rattle.debounce_laws.proofs.PathTests.{AtOrBelow, Below, below_at_or_below, not_both, at_itself}
use Rattle.debounce_laws.proofs.PathSets.{prefix_of, below_prefix, tied, not_tied}

-- at the path of a queue that is set
set_same : (queues : Queues) (p : PathValue) (q : List Timed) → events_at (with_queue queues p q) p ≡ q
set_same queues p q = ap (λ o. unwrap_or o []) (lookup-insert_same path_cmp_total queues p q)

-- .. at another
set_other : (queues : Queues) (p r : PathValue) (q : List Timed) → (r ≡ p → ⊥) →
    events_at (with_queue queues p q) r ≡ events_at queues r
set_other queues p r q n =
    ap (λ o. unwrap_or o []) (lookup-insert_other path_cmp_total queues p r q (not_tied r p n))

-- at the path of a queue that is taken out
taken_same : (queues : Queues) (p : PathValue) → IsStrictlySortedBy path_cmp (keys_of queues) →
    events_at (without_queue queues p) p ≡ []
taken_same queues p s = ap (λ o. unwrap_or o []) (lookup-remove_same path_cmp_total queues p s)

-- .. at another
taken_other : (queues : Queues) (p r : PathValue) → (r ≡ p → ⊥) → events_at (without_queue queues p) r
    ≡ events_at queues r
taken_other queues p r n =
    ap (λ o. unwrap_or o []) (lookup-remove_other path_cmp_total queues p r (not_tied r p n))

-- without the queues below a path, what waits at another
left_at : (queues : Queues) (p r : PathValue) (b : Bool) → not (is_below r p) ≡ b →
    queue_at (without_below queues p) r ≡ cond b (queue_at queues r) None
left_at queues p r b h =
    lookup-filter-keys (is_at (path_cmp r)) (λ k. not (is_below k p))
    b (λ k t. ap (λ z. not (is_below z p)) (sym (tied r k t)) ∙ h) queues

-- a path that is strictly below another
strictly : (p r : PathValue) → Below p r → not (is_below r p) ≡ false
strictly p r b = by (path_eq r p) refl
  where
    by : (c : Bool) → path_eq r p ≡ c → not (is_prefix p r && not (path_eq r p)) ≡ false
    by true e = absurd (not_both p r b (subst (λ z. AtOrBelow r z) ((path_eq_decides r p).0 e) (at_itself r)))
    by false e = rw (prefix_of p r (below_at_or_below p r b), e) refl

-- a path that is not below another is not strictly below it
outside : (p r : PathValue) → (AtOrBelow p r → ⊥) → not (is_below r p) ≡ true
outside p r n = by (is_prefix p r) refl
  where
    by : (c : Bool) → is_prefix p r ≡ c → not (is_prefix p r && not (path_eq r p)) ≡ true
    by true e = absurd (n (below_prefix p r e))
    by false e = rw e refl

-- a path is not strictly below itself
itself : (p : PathValue) → not (is_below p p) ≡ true
itself p = by (is_prefix p p)
  where
    by : (c : Bool) → not (c && not (path_eq p p)) ≡ true
    by true = rw ((path_eq_decides p p).1 refl) refl
    by false = refl

-- at the path of a push
pub push_same : (queues : Queues) (p : PathValue) (x : Timed) → events_at (push queues p x) p
    ≡ cond (skips (events_at queues p) x.event.kind) (events_at queues p) (events_at queues p ++ x ∷ [])
push_same queues p x = by (queue_at queues p) refl
  where
    unskipped : (b : Bool) → x ∷ [] ≡ cond (b && false) [] (x ∷ [])
    unskipped true = refl
    unskipped false = refl

    by : (o : Option (List Timed)) → queue_at queues p ≡ o → events_at (pushed_on queues p x o) p
        ≡ cond (skips (unwrap_or o []) x.event.kind) (unwrap_or o []) (unwrap_or o [] ++ x ∷ [])
    by None e = set_same queues p (x ∷ []) ∙ unskipped _
    by (Some q) e = at (skips q x.event.kind)
      where
        at : (b : Bool) → events_at (cond b queues (with_queue queues p (q ++ x ∷ []))) p
            ≡ cond b q (q ++ x ∷ [])
        at true = ap (λ o. unwrap_or o []) e
        at false = set_same queues p (q ++ x ∷ [])

-- .. at another
pub push_other : (queues : Queues) (p r : PathValue) (x : Timed) → (r ≡ p → ⊥) → events_at (push queues p x) r
    ≡ events_at queues r
push_other queues p r x n = by (queue_at queues p)
  where
    by : (o : Option (List Timed)) → events_at (pushed_on queues p x o) r ≡ events_at queues r
    by None = set_other queues p r (x ∷ []) n
    by (Some q) = at (skips q x.event.kind)
      where
        at : (b : Bool) → events_at (cond b queues (with_queue queues p (q ++ x ∷ []))) r ≡ events_at queues r
        at true = refl
        at false = set_other queues p r (q ++ x ∷ []) n

-- whether a queue was created, by what waits
created_by_events : (o : Option (List Timed)) → was_created_at o ≡ was_created (unwrap_or o [])
created_by_events None = refl
created_by_events (Some q) = refl

-- at the path of a removal
pub removal_same : (queues : Queues) (p : PathValue) (x : Timed) →
    IsStrictlySortedBy path_cmp (keys_of queues) → events_at (removal queues p x) p
    ≡ cond (was_created (events_at queues p)) [] (x ∷ [])
removal_same queues p x s = by (was_created_at (queue_at queues p))
    ∙ ap (λ b. cond b [] (x ∷ [])) (created_by_events (queue_at queues p))
  where
    by : (b : Bool) →
        events_at (cond b (without_queue (without_below queues p) p)
        (with_queue (without_below queues p) p (x ∷ []))) p ≡ cond b [] (x ∷ [])
    by true = taken_same (without_below queues p) p (sorted-filter path_cmp_total (λ e. not (is_below e.0 p))
        queues s)
    by false = set_same (without_below queues p) p (x ∷ [])

-- .. at a path that is not the path of the removal
removal_left : (queues : Queues) (p r : PathValue) (x : Timed) → (r ≡ p → ⊥) → events_at (removal queues p x) r
    ≡ events_at (without_below queues p) r
removal_left queues p r x n = by (was_created_at (queue_at queues p))
  where
    by : (b : Bool) →
        events_at (cond b (without_queue (without_below queues p) p)
        (with_queue (without_below queues p) p (x ∷ []))) r ≡ events_at (without_below queues p) r
    by true = taken_other (without_below queues p) p r n
    by false = set_other (without_below queues p) p r (x ∷ []) n

-- .. below it
pub removal_below : (queues : Queues) (p r : PathValue) (x : Timed) → Below p r →
    events_at (removal queues p x) r ≡ []
removal_below queues p r x b =
    removal_left queues p r x (λ e. not_both p r b (subst (λ z. AtOrBelow r z) e (at_itself r)))
    ∙ ap (λ o. unwrap_or o []) (left_at queues p r false (strictly p r b))

-- .. elsewhere
pub removal_other : (queues : Queues) (p r : PathValue) (x : Timed) → (AtOrBelow p r → ⊥) →
    events_at (removal queues p x) r ≡ events_at queues r
removal_other queues p r x n =
    removal_left queues p r x (λ e. n (subst (λ z. AtOrBelow p z) (sym e) (at_itself p)))
    ∙ ap (λ o. unwrap_or o []) (left_at queues p r true (outside p r n))

-- where all keys are above a path, nothing waits at it
none_above : (queues : Queues) (p : PathValue) → AllByRecursion (λ y. path_cmp p y ≡ Less) (keys_of queues) →
    events_at queues p ≡ []
none_above [] p a = refl
none_above (e ∷ queues) p a = rw a.0 (none_above queues p a.1)

-- behind an entry nothing waits at its path
pub none_behind : (e : PathValue × List Timed) (queues : Queues) →
    IsStrictlySortedBy path_cmp (keys_of (e ∷ queues)) → events_at queues e.0 ≡ []
unfolding IsStrictlySortedBy
none_behind e queues s = none_above queues e.0 s.0

-- the queues behind an entry are in order
pub sorted_behind : (e : PathValue × List Timed) (queues : Queues) →
    IsStrictlySortedBy path_cmp (keys_of (e ∷ queues)) → IsStrictlySortedBy path_cmp (keys_of queues)
unfolding IsStrictlySortedBy
sorted_behind e queues s = s.1

-- a list that waits for nothing is empty
not_waiting : (xs : List Timed) → waits xs ≡ false → xs ≡ []
not_waiting [] h = refl
not_waiting (x ∷ xs) h = let yes : waits (x ∷ xs) ≡ true = search rules in absurd (true≢false (sym yes ∙ h))

-- at each path what is not due waits on
pub rests_at : (due : Timed → Bool) (queues : Queues) (p : PathValue) →
    IsStrictlySortedBy path_cmp (keys_of queues) → events_at (rests due queues) p
    ≡ rest_after due (events_at queues p)
rests_at due [] p s = refl
rests_at due (e ∷ queues) p s =
    by (waits (rest_after due e.1)) refl (is_eq (path_cmp p e.0)) refl
    (rests_at due queues p (sorted_behind e queues s))
  where
    by : (w : Bool) → waits (rest_after due e.1) ≡ w → (b : Bool) → is_eq (path_cmp p e.0) ≡ b →
        events_at (rests due queues) p ≡ rest_after due (events_at queues p) →
        events_at (cond w ((e.0, rest_after due e.1) ∷ rests due queues) (rests due queues)) p
        ≡ rest_after due (events_at (e ∷ queues) p)
    by true w true i more = rw i refl
    by true w false i more = rw i more
    by false w true i more =
        let none : events_at queues p ≡ [] = ap (events_at queues) (tied p e.0 i) ∙ none_behind e queues s in
        let here : events_at (e ∷ queues) p ≡ e.1 = rw i refl in
        more ∙ ap (rest_after due) none ∙ sym (not_waiting (rest_after due e.1) w)
        ∙ ap (rest_after due) (sym here)
    by false w false i more = more ∙ ap (rest_after due) (by_next)
      where
        by_next : events_at queues p ≡ events_at (e ∷ queues) p
        by_next = rw i refl
