-- What is found in queues after a push, a removal and a tick: what stands for a change stays, or is handed out.
use Rattle.std.proofs.Common.{rules, ◌≡◌, Bool, true, false, cond, not, ◌&&◌, ◌||◌, List, [], ◌∷◌, ◌++◌, refl, ap, sym, ◌∙◌, subst, Option, Some, None, true≢false}
use Rattle.std.specs.List.{list_any}
use Rattle.std.specs.BTreeMap.{is_at}
use Rattle.std.specs.Ordering.{is_eq}
use Rattle.std.proofs.lemmas.List.Folds.{list_any-append}
use Rattle.std.proofs.lemmas.Map.Entries.{lookup-filter-keys}
use Rattle.notify_types.specs.Event.{Timed}
use Rattle.notify_types.specs.KindNumbers.{kind_eq_decides}
use Rattle.notify_types.specs.Kinds.{is_creation, is_skippable}
use Rattle.notify_paths.specs.Path.{PathValue, path_eq, path_cmp, is_prefix, is_below}
use Rattle.notify_paths.specs.PathLaws.{path_cmp_total, path_eq_decides, path_matches_eq}
use Rattle.notify_types.specs.declared.kind.EventKind.{EventKind}
use Rattle.notify_paths.proofs.Prefixes.{prefix_itself}
use Rattle.debounce_model.specs.Due.{expired_beginning, rest_after, last_of_kind, place_list, waits, rests}
use Rattle.debounce_model.specs.Kept.{has_first, stands_for, is_among}
use Rattle.debounce_model.specs.Queues.{Queues, queue_at, with_queue, without_queue, without_below, was_created, was_created_at, skips, push, pushed_on, removal, events_at}
use Rattle.debounce_laws.proofs.DueLists.{each_early}
use Rattle.debounce_laws.proofs.EachQueue.{each-found}
use Rattle.debounce_model.proofs.Entries.{lookup-insert_same, lookup-insert_other, lookup-remove_other}
use Rattle.debounce_laws.proofs.ToldQueues.{IsTold, AreTold, AreAllTold, or_true, stands, created_holds, last_among}

-- three tests, in another order
or_swapped : (a b c : Bool) → (a || (b || c)) ≡ (b || (a || c))
or_swapped true true c = refl
or_swapped true false c = refl
or_swapped false b c = refl

-- what is found in a queue is found in its rest or in its beginning
found-cut : (f due : Timed → Bool) (xs : List Timed) →
    list_any f xs ≡ (list_any f (rest_after due xs) || list_any f (expired_beginning due xs))
found-cut f due [] = refl
found-cut f due (x ∷ xs) = by (due x) (found-cut f due xs)
  where
    whole : (b : Bool) → b ≡ (b || false)
    whole true = refl
    whole false = refl

    by : (b : Bool) →
        list_any f xs ≡ (list_any f (rest_after due xs) || list_any f (expired_beginning due xs)) →
        list_any f (x ∷ xs) ≡ (list_any f (cond b (rest_after due xs) (x ∷ xs))
        || list_any f (cond b (x ∷ expired_beginning due xs) []))
    by true h = ap (λ r. f x || r) h ∙ or_swapped (f x) _ _
    by false h = whole (list_any f (x ∷ xs))

-- paths that the order ties are one
tied : (path p : PathValue) → is_eq (path_cmp path p) ≡ true → path ≡ p
tied path p e = (path_eq_decides path p).0 (path_matches_eq path p ∙ e)

module _ (f : Timed → Bool) (path : PathValue) where
  -- what is found at a path is found at one that the order ties to it
  found-tied : (queues : Queues) (p : PathValue) → is_eq (path_cmp path p) ≡ true →
      list_any f (events_at queues path) ≡ true → list_any f (events_at queues p) ≡ true
  found-tied queues p e h = subst (λ q. list_any f (events_at queues q) ≡ true) (tied path p e) h

  -- what is found at a path is still found where a queue is set that has it, too
  found-set : (queues : Queues) (p : PathValue) (new : List Timed) →
      (is_eq (path_cmp path p) ≡ true → list_any f new ≡ true) → list_any f (events_at queues path) ≡ true →
      list_any f (events_at (with_queue queues p new) path) ≡ true
  found-set queues p new t h = by (is_eq (path_cmp path p)) refl
    where
      by : (b : Bool) → is_eq (path_cmp path p) ≡ b → list_any f (events_at (with_queue queues p new) path)
          ≡ true
      by true e = let here = t e in rw (tied path p e, lookup-insert_same path_cmp_total queues p new) here
      by false e = rw (lookup-insert_other path_cmp_total queues p path new e) h

  -- .. after a push
  pub found-push : (queues : Queues) (p : PathValue) (x : Timed) → list_any f (events_at queues path) ≡ true →
      list_any f (events_at (push queues p x) path) ≡ true
  found-push queues p x h = by (queue_at queues p) refl
    where
      by : (o : Option (List Timed)) → queue_at queues p ≡ o →
          list_any f (events_at (pushed_on queues p x o) path) ≡ true
      by None e = found-set queues p
          (x ∷ []) (λ i. absurd (true≢false (sym (rw e at (found-tied queues p i h))))) h
      by (Some q) e = at (skips q x.event.kind)
        where
          more : is_eq (path_cmp path p) ≡ true → list_any f (q ++ x ∷ []) ≡ true
          more i = list_any-append f q (x ∷ [])
              ∙ ap (λ b. b || list_any f (x ∷ [])) (rw e at (found-tied queues p i h))

          at : (b : Bool) → list_any f (events_at (cond b queues (with_queue queues p (q ++ x ∷ []))) path)
              ≡ true
          at true = h
          at false = found-set queues p (q ++ x ∷ []) more h

  -- .. after a removal of what is no prefix of the path
  pub found-removal : (queues : Queues) (p : PathValue) (x : Timed) → is_prefix p path ≡ false →
      list_any f (events_at queues path) ≡ true → list_any f (events_at (removal queues p x) path) ≡ true
  found-removal queues p x n h = by (was_created_at (queue_at queues p))
    where
      apart : (b : Bool) → is_eq (path_cmp path p) ≡ b → is_eq (path_cmp path p) ≡ false
      apart true e =
          absurd (true≢false (sym (prefix_itself p) ∙ subst (λ q. is_prefix p q ≡ false) (tied path p e) n))
      apart false e = e

      left : queue_at (without_below queues p) path ≡ queue_at queues path
      left = lookup-filter-keys (is_at (path_cmp path)) (λ k. not (is_below k p))
          true (λ k e. rw (← tied path k e, n) refl) queues

      by : (b : Bool) →
          list_any f (events_at (cond b (without_queue (without_below queues p) p)
          (with_queue (without_below queues p) p (x ∷ []))) path) ≡ true
      by true = rw (lookup-remove_other path_cmp_total (without_below queues p) p path (apart _ refl), left) h
      by false = rw (
        lookup-insert_other path_cmp_total (without_below queues p) p path (x ∷ []) (apart _ refl),
        left,
      ) h

-- what is found in a list makes it wait
waits-found : (f : Timed → Bool) (xs : List Timed) → list_any f xs ≡ true → waits xs ≡ true
waits-found f [] h = h
waits-found f (x ∷ xs) h = search rules

-- one of three tests passes where the first or the second does
or_left : (a b c : Bool) → (a || b) ≡ true → (a || (b || c)) ≡ true
or_left true b c h = refl
or_left false true c h = refl
or_left false false c h = absurd (true≢false (sym h))

-- .. where the first or the third does
or_between : (a b c : Bool) → (a || c) ≡ true → (a || (b || c)) ≡ true
or_between true b c h = refl
or_between false b c h = rw h (or_true b)

-- what some event of a list passes, some event passes that passes less
any-weaken : (f g : Timed → Bool) → ((x : Timed) → f x ≡ true → g x ≡ true) → (xs : List Timed) →
    list_any f xs ≡ true → list_any g xs ≡ true
any-weaken f g less [] h = absurd (true≢false (sym h))
any-weaken f g less (x ∷ xs) h = by (f x) refl (any-weaken f g less xs)
  where
    by : (b : Bool) → f x ≡ b → (list_any f xs ≡ true → list_any g xs ≡ true) → list_any g (x ∷ xs) ≡ true
    by true e more = rw (less x e) refl
    by false e more = rw (more (rw e at h)) (or_true (g x))

module _ (path : PathValue) (kind : EventKind) (f : Timed → Bool) (fits : (x : Timed) → f x ≡ true →
    stands_for kind x ≡ true) (due : Timed → Bool) where
  -- at a tick, what is found of what stands for a change stays, or something that stands for it is handed out
  pub found-cuts : (queues : Queues) → AreAllTold queues → list_any f (events_at queues path) ≡ true →
      (list_any f (events_at (rests due queues) path) || is_among path kind (place_list due queues)) ≡ true
  found-cuts [] t h = absurd (true≢false (sym h))
  found-cuts (e ∷ queues) t h =
      rw (list_any-append (λ x. has_first (λ p. path_eq p path) x.event.paths && stands_for kind x)
      (last_of_kind (expired_beginning due e.1)) (place_list due queues))
      (by (waits rest) refl (is_eq (path_cmp path e.0)) refl (found-cuts queues t.1))
    where
      rest : List Timed
      rest = rest_after due e.1

      handed : Bool
      handed = is_among path kind (last_of_kind (expired_beginning due e.1))

      later : Bool
      later = is_among path kind (place_list due queues)

      here : is_eq (path_cmp path e.0) ≡ true → (list_any f rest || handed) ≡ true
      here i = at (list_any f rest) (rw (found-cut f due e.1) at (rw i at h))
        where
          told : AreTold path e.1
          told = subst (λ q. AreTold q e.1) (sym (tied path e.0 i)) t.0

          at : (b : Bool) → (b || list_any f (expired_beginning due e.1)) ≡ true → (b || handed) ≡ true
          at true g = refl
          at false g =
              last_among path kind (expired_beginning due e.1) (each_early due (IsTold path) e.1 told)
              (any-weaken f (stands_for kind) fits (expired_beginning due e.1) g)

      nothing : waits rest ≡ false → (b : Bool) → list_any f rest ≡ b → b ≡ false
      nothing w true g = absurd (true≢false (sym (waits-found f rest g) ∙ w))
      nothing w false g = refl

      by : (w : Bool) → waits rest ≡ w → (b : Bool) → is_eq (path_cmp path e.0) ≡ b →
          (list_any f (events_at queues path) ≡ true → (list_any f (events_at (rests due queues) path) || later)
          ≡ true) →
          (list_any f (events_at (cond w ((e.0, rest) ∷ rests due queues) (rests due queues)) path)
          || (handed || later)) ≡ true
      by true w true i more = rw i (or_left _ handed later (here i))
      by false w true i more = rw (rw (nothing w _ refl) at (here i)) (or_true _)
      by true w false i more = rw i (or_between _ handed later (more (rw i at h)))
      by false w false i more = or_between _ handed later (more (rw i at h))

-- at a tick, what stands for a change stays or is handed out
pub found-rests : (due : Timed → Bool) (queues : Queues) (path : PathValue) (kind : EventKind) →
    AreAllTold queues → list_any (stands_for kind) (events_at queues path) ≡ true →
    (list_any (stands_for kind) (events_at (rests due queues) path)
    || is_among path kind (place_list due queues)) ≡ true
found-rests due queues path kind t h = found-cuts path kind (stands_for kind) (λ x e. e) due queues t h

-- an event that told a change stands for it once it is pushed
pub found-pushed : (queues : Queues) (p : PathValue) (x : Timed) → AreAllTold queues → IsTold p x →
    list_any (stands_for x.event.kind) (events_at (push queues p x) p) ≡ true
found-pushed queues p x t h = by (queue_at queues p) refl
  where
    f : Timed → Bool
    f = stands_for x.event.kind

    itself : f x ≡ true
    itself = stands p x.event.kind x h (rw ((kind_eq_decides x.event.kind x.event.kind).1 refl)
        (or_true (is_creation x.event.kind)))

    last : (xs : List Timed) → list_any f (xs ++ x ∷ []) ≡ true
    last xs = list_any-append f xs (x ∷ []) ∙ rw itself (or_true (list_any f xs))

    by : (o : Option (List Timed)) → queue_at queues p ≡ o → list_any f (events_at (pushed_on queues p x o) p)
        ≡ true
    by None e = rw (lookup-insert_same path_cmp_total queues p (x ∷ [])) (last [])
    by (Some q) e = at (was_created q) refl (is_skippable x.event.kind)
      where
        at : (c : Bool) → was_created q ≡ c → (k : Bool) →
            list_any f (events_at (cond (k && c) queues (with_queue queues p (q ++ x ∷ []))) p) ≡ true
        at true c true = rw e (created_holds p x.event.kind q (each-found AreTold queues p q t e) c)
        at true c false = rw (lookup-insert_same path_cmp_total queues p (q ++ x ∷ [])) (last q)
        at false c true = rw (lookup-insert_same path_cmp_total queues p (q ++ x ∷ [])) (last q)
        at false c false = rw (lookup-insert_same path_cmp_total queues p (q ++ x ∷ [])) (last q)
