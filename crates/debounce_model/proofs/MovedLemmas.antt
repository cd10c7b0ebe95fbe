-- What a move of queues leaves at each path, and what it keeps.
use Rattle.std.proofs.Common.{◌≡◌, ℕ, ◌+◌, ◌≤◌, Bool, true, false, cond, not, List, [], ◌∷◌, length, drop, map, refl, ap, sym, ◌∙◌, Option, Some, None, true≢false, arith}
use Rattle.std.specs.Option.{option_map}
use Rattle.std.specs.Map.{keys_of, values_of}
use Rattle.std.specs.BTreeMap.{is_at}
use Rattle.std.specs.Ordering.{is_eq}
use Rattle.std.specs.declared.cmp.Ordering.{Ordering}
use Rattle.std.specs.declared.cmp.Ordering.TheVariants.{Less, Equal, Greater}
use Rattle.std.specs.List.Sorted.{IsStrictlySortedBy}
use Rattle.std.proofs.lemmas.List.Sums.{sum_by-cons}
use Rattle.std.proofs.lemmas.Map.Entries.{lookup-filter-keys, sum_by-insert_entry}
use Rattle.notify_types.specs.Event.{Timed, AttributesValue}
use Rattle.notify_types.specs.Kinds.{is_removal}
use Rattle.notify_paths.specs.Path.{PathValue, path_cmp, is_prefix, is_below}
use Rattle.notify_paths.specs.PathMoves.{relocated}
use Rattle.notify_paths.specs.PathLaws.{path_cmp_total}
use Rattle.std.proofs.lemmas.List.{length-map}
use Rattle.notify_paths.proofs.Prefixes.{same_path}
use Rattle.debounce_model.specs.Moved.{are_apart, moved_path, moved_paths, moved_event, moved_queue, moved_entry, below_of, moved_below, with_queues, moved, moved_along, began, joined_rename}
use Rattle.debounce_model.specs.Queues.{Queues, queue_at, without_below, waiting_in}
use Rattle.debounce_model.specs.Rename.{is_both}
use Rattle.debounce_model.specs.WellFormed.{IsFirst, kept_by, IsKeyed, IsNonempty, HasNoBoth, IsBothInFront, IsQueue, AreQueues}
use Rattle.debounce_model.proofs.Entries.{each-filter, each-insert_entry, lookup-insert_same, lookup-insert_other, sorted-filter, sorted-insert_entry, sum-filter}
use Rattle.debounce_model.proofs.GoodQueues.{IsBothFirst, IsBothBehind, AreGood}
use Rattle.debounce_model.proofs.MovedPaths.{same_at, below_prefix, below_relocated, cmp_relocated}
use Rattle.debounce_model.proofs.RenameLemmas.{good-halves}

-- the first of two, where it is there, and else the second
abbrev pub or_else : {X : Type 0} → Option X → Option X → Option X
or_else None b = b
or_else (Some a) b = Some a

-- queues that are put in are found in front of the others
pub queue-with_queues : (queues es : Queues) (q : PathValue) → queue_at (with_queues queues es) q
    ≡ or_else (queue_at es q) (queue_at queues q)
queue-with_queues queues [] q = refl
queue-with_queues queues (e ∷ es) q = by (path_cmp q e.0) refl (queue-with_queues queues es q)
  where
    by : (o : Ordering) → path_cmp q e.0 ≡ o → queue_at (with_queues queues es) q
        ≡ or_else (queue_at es q) (queue_at queues q) → queue_at (with_queues queues (e ∷ es)) q
        ≡ or_else (cond (is_eq o) (Some e.1) (queue_at es q)) (queue_at queues q)
    by Less h more = lookup-insert_other path_cmp_total (with_queues queues es) e.0 q e.1 (ap is_eq h) ∙ more
    by Equal h more = rw (same_path q e.0 h) (lookup-insert_same path_cmp_total (with_queues queues es) e.0 e.1)
    by Greater h more = lookup-insert_other path_cmp_total (with_queues queues es) e.0 q e.1 (ap is_eq h) ∙ more

module _ (f t : PathValue) (time : ℕ) where
  -- below t is found what was at the same place below f
  pub moved_found : (queues : Queues) (q : PathValue) → is_prefix t q ≡ true →
      queue_at (moved_below queues f t time) q
      ≡ option_map (moved_queue f t time) (queue_at (below_of queues f) (relocated t f q))
  moved_found [] q i = refl
  moved_found (e ∷ queues) q i = by (is_below e.0 f) refl (moved_found queues q i)
    where
      by : (b : Bool) → is_below e.0 f ≡ b → queue_at (moved_below queues f t time) q
          ≡ option_map (moved_queue f t time) (queue_at (below_of queues f) (relocated t f q)) →
          queue_at (map (moved_entry f t time) (cond b (e ∷ below_of queues f) (below_of queues f))) q
          ≡ option_map (moved_queue f t time) (queue_at (cond b (e ∷ below_of queues f) (below_of queues f))
          (relocated t f q))
      by false h more = more
      by true h more =
          rw (cmp_relocated f t q e.0 i (below_prefix e.0 f h)) (at (is_eq (path_cmp (relocated t f q) e.0)))
        where
          at : (b : Bool) → cond b (Some (moved_queue f t time e.1)) (queue_at (moved_below queues f t time) q)
              ≡ option_map (moved_queue f t time)
              (cond b (Some e.1) (queue_at (below_of queues f) (relocated t f q)))
          at true = refl
          at false = more

  -- elsewhere nothing was put
  pub moved_nowhere : (queues : Queues) (q : PathValue) → is_below q t ≡ false →
      queue_at (moved_below queues f t time) q ≡ None
  moved_nowhere [] q n = refl
  moved_nowhere (e ∷ queues) q n = by (is_below e.0 f) refl (moved_nowhere queues q n)
    where
      by : (b : Bool) → is_below e.0 f ≡ b → queue_at (moved_below queues f t time) q ≡ None →
          queue_at (map (moved_entry f t time) (cond b (e ∷ below_of queues f) (below_of queues f))) q ≡ None
      by false h more = more
      by true h more = at (is_at (path_cmp q) (relocated f t e.0)) refl
        where
          at : (c : Bool) → is_at (path_cmp q) (relocated f t e.0) ≡ c →
              cond c (Some (moved_queue f t time e.1)) (queue_at (moved_below queues f t time) q) ≡ None
          at true c = absurd (true≢false (sym (below_relocated f t e.0 h)
              ∙ ap (λ p. is_below p t) (sym (same_at q (relocated f t e.0) c)) ∙ n))
          at false c = more

-- a look-up among what lies below a path
pub queue-below_of : (queues : Queues) (f q : PathValue) (b : Bool) → is_below q f ≡ b →
    queue_at (below_of queues f) q ≡ cond b (queue_at queues q) None
queue-below_of queues f q b h =
    lookup-filter-keys (is_at (path_cmp q)) (λ k. is_below k f)
    b (λ k i. ap (λ p. is_below p f) (sym (same_at q k i)) ∙ h) queues

-- .. among what doesn't
pub queue-without_below : (queues : Queues) (f q : PathValue) (b : Bool) → is_below q f ≡ b →
    queue_at (without_below queues f) q ≡ cond (not b) (queue_at queues q) None
queue-without_below queues f q b h =
    lookup-filter-keys (is_at (path_cmp q)) (λ k. not (is_below k f))
    (not b) (λ k i. ap (λ p. not (is_below p f)) (sym (same_at q k i)) ∙ ap not h) queues

module _ (queues : Queues) (f t : PathValue) (time : ℕ) (q : PathValue) where
  -- after a move, strictly below t is found what was at the same place below f
  pub queue-moved_below : is_below q t ≡ true → queue_at (moved queues f t time) q
      ≡ option_map (moved_queue f t time) (queue_at queues (relocated t f q))
  queue-moved_below h =
      queue-with_queues (without_below (without_below queues f) t) (moved_below queues f t time) q
      ∙ ap (or_else (queue_at (moved_below queues f t time) q))
      (queue-without_below (without_below queues f) t q true h)
      ∙ or_none (queue_at (moved_below queues f t time) q)
      ∙ moved_found f t time queues q (below_prefix q t h)
      ∙ ap (option_map (moved_queue f t time))
      (queue-below_of queues f (relocated t f q) true (below_relocated t f q h))
    where
      or_none : {X : Type 0} (o : Option X) → or_else o None ≡ o
      or_none None = refl
      or_none (Some x) = refl

  -- elsewhere what is left there
  moved_left : is_below q t ≡ false → queue_at (moved queues f t time) q ≡ queue_at (without_below queues f) q
  moved_left n =
      queue-with_queues (without_below (without_below queues f) t) (moved_below queues f t time) q
      ∙ ap (λ o. or_else o (queue_at (without_below (without_below queues f) t) q))
      (moved_nowhere f t time queues q n)
      ∙ queue-without_below (without_below queues f) t q false n

  -- strictly below f nothing
  pub queue-moved_from : is_below q t ≡ false → is_below q f ≡ true → queue_at (moved queues f t time) q ≡ None
  queue-moved_from n h = moved_left n ∙ queue-without_below queues f q true h

  -- at any other path what was there
  pub queue-moved_other : is_below q t ≡ false → is_below q f ≡ false → queue_at (moved queues f t time) q
      ≡ queue_at queues q
  queue-moved_other n h = moved_left n ∙ queue-without_below queues f q false h

module _ (f t : PathValue) (time : ℕ) where
  -- a path strictly below f goes along
  pub goes_along : (p : PathValue) → is_below p f ≡ true → moved_path f t p ≡ relocated f t p
  goes_along p h = rw h refl

  -- an event that goes along is kept by its new path
  kept-moved : (p : PathValue) (x : Timed) → is_below p f ≡ true → IsFirst p (kept_by x) →
      IsFirst (relocated f t p) (kept_by (moved_event f t time x))
  kept-moved p x h k = by (is_both x) x.event.paths k
    where
      by : (b : Bool) (ps : List PathValue) → IsFirst p (cond b (drop 1 ps) ps) →
          IsFirst (relocated f t p) (cond b (drop 1 (moved_paths f t (cond b 2 1) ps))
          (moved_paths f t (cond b 2 1) ps))
      by true [] k = k
      by true (y ∷ []) k = k
      by true (y ∷ z ∷ ps) k = ap (moved_path f t) k ∙ goes_along p h
      by false [] k = k
      by false (y ∷ ps) k = ap (moved_path f t) k ∙ goes_along p h

  -- .. of a queue each
  keyed-moved : (p : PathValue) (xs : List Timed) → is_below p f ≡ true → IsKeyed p xs →
      IsKeyed (relocated f t p) (moved_queue f t time xs)
  keyed-moved p [] h k = tt
  keyed-moved p (x ∷ xs) h k = (kept-moved p x h k.0, keyed-moved p xs h k.1)

  -- no joined rename comes of it
  no_both-moved : (xs : List Timed) → HasNoBoth xs → HasNoBoth (moved_queue f t time xs)
  no_both-moved [] k = tt
  no_both-moved (x ∷ xs) k = (k.0, no_both-moved xs k.1)

  -- a joined rename stays in front
  in_front-moved : (xs : List Timed) → IsBothInFront xs → IsBothInFront (moved_queue f t time xs)
  in_front-moved [] k = tt
  in_front-moved (x ∷ xs) k = by (is_removal x.event.kind) k
    where
      first : (xs : List Timed) → IsBothFirst xs → IsBothFirst (moved_queue f t time xs)
      first [] k = tt
      first (y ∷ xs) k = no_both-moved xs k

      by : (b : Bool) → IsBothBehind b xs → IsBothBehind b (moved_queue f t time xs)
      by true k = first xs k
      by false k = no_both-moved xs k

  -- nothing gets lost
  nonempty-moved : (xs : List Timed) → IsNonempty xs → IsNonempty (moved_queue f t time xs)
  nonempty-moved [] k = k
  nonempty-moved (x ∷ xs) k = tt

  -- a queue that goes along is one of its new path
  law-moved : (p : PathValue) (xs : List Timed) → is_below p f ≡ true → IsQueue p xs →
      IsQueue (relocated f t p) (moved_queue f t time xs)
  law-moved p xs h k = (nonempty-moved xs k.0, keyed-moved p xs h k.1, in_front-moved xs k.2)

  -- .. all of them
  laws-moved : (queues : Queues) → AreQueues queues → AreQueues (moved_below queues f t time)
  laws-moved [] a = tt
  laws-moved (e ∷ queues) a = by (is_below e.0 f) refl (laws-moved queues a.1)
    where
      by : (b : Bool) → is_below e.0 f ≡ b → AreQueues (moved_below queues f t time) →
          AreQueues (map (moved_entry f t time) (cond b (e ∷ below_of queues f) (below_of queues f)))
      by true h more = (law-moved e.0 e.1 h a.0, more)
      by false h more = more

  -- as many wait at their new places, and with what does not lie below f they are all
  length-moved : (queues : Queues) →
      waiting_in (moved_below queues f t time) + waiting_in (without_below queues f) ≡ waiting_in queues
  length-moved [] = omega arith
  length-moved (e ∷ queues) = by (is_below e.0 f) (length-moved queues)
    where
      by : (b : Bool) → waiting_in (moved_below queues f t time) + waiting_in (without_below queues f)
          ≡ waiting_in queues →
          waiting_in (map (moved_entry f t time)
          (cond b (e ∷ below_of queues f) (below_of queues f))) + waiting_in
          (cond (not b) (e ∷ without_below queues f) (without_below queues f)) ≡ waiting_in (e ∷ queues)
      by true h = omega (
        arith,
        h,
        length-map e.1 (moved_event f t time),
        sum_by-cons length e.1 (values_of queues),
        sum_by-cons length (moved_queue f t time e.1) (values_of (moved_below queues f t time)),
      )
      by false h =
          omega (
            arith,
            h,
            sum_by-cons length e.1 (values_of queues),
            sum_by-cons length e.1 (values_of (without_below queues f)),
          )

-- the laws of the queues stay
laws-with_queues : (queues es : Queues) → AreQueues queues → AreQueues es → AreQueues (with_queues queues es)
laws-with_queues queues [] a b = a
laws-with_queues queues (e ∷ es) a b =
    each-insert_entry path_cmp_total (λ x. IsQueue x.0 x.1) (with_queues queues es) e.0 e.1
    (laws-with_queues queues es a b.1) b.0 (λ y h. rw (sym (same_path e.0 y h)) b.0)

-- their order too
pub sorted-with_queues : (queues es : Queues) → IsStrictlySortedBy path_cmp (keys_of queues) →
    IsStrictlySortedBy path_cmp (keys_of (with_queues queues es))
sorted-with_queues queues [] s = s
sorted-with_queues queues (e ∷ es) s =
    sorted-insert_entry path_cmp_total (with_queues queues es) e.0 e.1 (sorted-with_queues queues es s)

-- no more wait than in both
length-with_queues : (queues es : Queues) → IsStrictlySortedBy path_cmp (keys_of queues) →
    waiting_in (with_queues queues es) ≤ waiting_in es + waiting_in queues
length-with_queues queues [] s = omega arith
length-with_queues queues (e ∷ es) s =
    omega (
      arith,
      length-with_queues queues es s,
      sum_by-cons length e.1 (values_of es),
      sum_by-insert_entry length path_cmp_total (with_queues queues es) e.0 e.1
          (sorted-with_queues queues es s),
    )

-- a move keeps the laws of the queues
good-moved : (queues : Queues) (f t : PathValue) (time n : ℕ) → AreGood queues n →
    AreGood (moved queues f t time) n
good-moved queues f t time n g =
    let p : PathValue × List Timed → Bool = λ e. not (is_below e.0 f) in
    let q : PathValue × List Timed → Bool = λ e. not (is_below e.0 t) in
    let s : IsStrictlySortedBy path_cmp (keys_of (without_below (without_below queues f) t)) =
    sorted-filter path_cmp_total q (without_below queues f)
    (sorted-filter path_cmp_total p queues g.ordered) in
    record {
      kept = laws-with_queues (without_below (without_below queues f) t) (moved_below queues f t time)
          (each-filter path_cmp_total _ q (without_below queues f)
          (each-filter path_cmp_total _ p queues g.kept)) (laws-moved f t time queues g.kept);
      ordered = sorted-with_queues (without_below (without_below queues f) t) (moved_below queues f t time) s;
      bounded = omega (
        arith,
        g.bounded,
        length-moved f t time queues,
        sum-filter path_cmp_total length q (without_below queues f),
        length-with_queues (without_below (without_below queues f) t) (moved_below queues f t time) s,
      );
    }

-- .. where it is made
good-along : (queues : Queues) (f t : PathValue) (time n : ℕ) → AreGood queues n →
    AreGood (moved_along queues f t time) n
good-along queues f t time n g = by (are_apart f t)
  where
    by : (b : Bool) → AreGood (cond b (moved queues f t time) queues) n
    by true = good-moved queues f t time n g
    by false = g

-- a joined rename keeps the laws of the queues, and adds one event at most
pub good-joined : (queues : Queues) (f t : PathValue) (time : ℕ) (attrs : AttributesValue) (n : ℕ) →
    AreGood queues n → AreGood (joined_rename queues f t time attrs) (n + 1)
good-joined queues f t time attrs n g =
    good-along _ f t (began queues f time) (n + 1) (good-halves queues f t time attrs n g)
