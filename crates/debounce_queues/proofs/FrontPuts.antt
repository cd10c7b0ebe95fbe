-- Several queues are put at once: room for them, the pairs that tell them from what waited there, and the index.
use Rattle.std.proofs.Common.{rules, ◌≡◌, ℕ, Bool, true, false, ◌&&◌, ◌||◌, List, [], ◌∷◌, ◌++◌, refl, ap, sym, ◌∙◌, Option, Some, None, true≢false, arith}
use Rattle.std.specs.Prelude.{OnOk, OnErr, is_some}
use Rattle.std.specs.Bool.{◌==◌}
use Rattle.std.specs.Map.{keys_of}
use Rattle.std.specs.BTreeMap.{is_at}
use Rattle.std.specs.BTreeSet.{BTreeSet}
use Rattle.std.specs.List.Sorted.{IsStrictlySortedBy}
use Rattle.std.specs.declared.result.Result.{Result}
use Rattle.std.specs.declared.result.Result.TheVariants.{Ok, Err}
use Rattle.std.proofs.lemmas.Bool.Decides.{nat_tests}
use Rattle.std.proofs.lemmas.Cmp.{tied_itself}
use Rattle.std.proofs.lemmas.List.Folds.{list_any-append}
use Rattle.notify_types.specs.Event.{Timed}
use Rattle.notify_paths.specs.Path.{PathValue, path_cmp}
use Rattle.notify_paths.specs.PathLaws.{path_cmp_total}
use Rattle.notify_paths.proofs.Prefixes.{same_path}
use Rattle.debounce_model.specs.Due.{waits}
use Rattle.debounce_model.specs.MapSteps.{reserved_on, reserved, reserved_all, nonempty_of}
use Rattle.debounce_model.specs.Moved.{with_queues}
use Rattle.debounce_model.specs.Queues.{Queues, queue_at, with_queue}
use Rattle.debounce_model.specs.WellFormed.{IsNonempty}
use Rattle.debounce_model.proofs.Entries.{each-insert_entry, lookup-insert_same, lookup-insert_other, same_entries, sorted-insert_entry}
use Rattle.debounce_model.proofs.MovedLemmas.{or_else, queue-with_queues, sorted-with_queues}
use Rattle.debounce_model.proofs.MovedPaths.{same_at}
use Rattle.debounce_model.proofs.MoveSteps.{queue-reserved_all}
use Rattle.debounce_queues.specs.Fronts.{front_of, is_time, is_front, IsIndexed, front_time}
use Rattle.debounce_queues.specs.Steps.{AreFilled, DifferAt, IsKept, IsSettled, IsWith, TellApart, front_pair, has_pair, pair_of, put_pairs, put_pairs_at}
use Rattle.debounce_queues.proofs.FrontLemmas.{same_front}
use Rattle.debounce_queues.proofs.FrontSettle.{settled_ok, settled_err}

-- where no queue is empty, they are all of which something waits
pub nonempty_filled : (queues : Queues) → AreFilled queues → nonempty_of queues ≡ queues
nonempty_filled [] a = refl
nonempty_filled (e ∷ queues) a = rw (full e.1 a.0) (ap (λ r. e ∷ r) (nonempty_filled queues a.1))
  where
    full : (xs : List Timed) → IsNonempty xs → waits xs ≡ true
    full [] n = absurd n
    full (x ∷ xs) n = search rules

-- where something stands at the path, there is room
pub reserved_there : (queues : Queues) (path : PathValue) → is_some (queue_at queues path) ≡ true →
    queues ≡ reserved queues path
reserved_there queues path h = by (queue_at queues path) h
  where
    by : (o : Option (List Timed)) → is_some o ≡ true → queues ≡ reserved_on queues path o
    by None e = absurd (true≢false (sym e))
    by (Some x) e = refl

-- .. and else an empty queue makes room
pub reserved_new : (queues : Queues) (path key : PathValue) (q : List Timed) (new : Queues) →
    is_some (queue_at queues path) ≡ false → key ≡ path → q ≡ [] → new ≡ with_queue queues key q →
    new ≡ reserved queues path
reserved_new queues path key q new none k e put =
    put ∙ ap (λ p. with_queue queues p q) k ∙ ap (with_queue queues path) e ∙ by (queue_at queues path) none
  where
    by : (o : Option (List Timed)) → is_some o ≡ false → with_queue queues path [] ≡ reserved_on queues path o
    by None e = refl
    by (Some x) e = absurd (true≢false e)

-- room keeps the order
sorted-reserved_all : (queues es : Queues) → IsStrictlySortedBy path_cmp (keys_of queues) →
    IsStrictlySortedBy path_cmp (keys_of (reserved_all queues es))
sorted-reserved_all queues [] s = s
sorted-reserved_all queues (e ∷ es) s =
    sorted-reserved_all (reserved queues e.0) es (by (queue_at queues e.0))
  where
    by : (o : Option (List Timed)) → IsStrictlySortedBy path_cmp (keys_of (reserved_on queues e.0 o))
    by None = sorted-insert_entry path_cmp_total queues e.0 [] s
    by (Some x) = s

-- the queues that are put in their room are those that are put without it
pub with_queues-reserved : (queues es : Queues) → IsStrictlySortedBy path_cmp (keys_of queues) →
    with_queues (reserved_all queues es) es ≡ with_queues queues es
with_queues-reserved queues es s =
    same_entries path_cmp_total same_path (with_queues (reserved_all queues es) es) (with_queues queues es)
    (sorted-with_queues (reserved_all queues es) es (sorted-reserved_all queues es s))
    (sorted-with_queues queues es s)
    (λ q. queue-with_queues (reserved_all queues es) es q ∙ by q (queue_at es q) refl
    ∙ sym (queue-with_queues queues es q))
  where
    by : (q : PathValue) (o : Option (List Timed)) → queue_at es q ≡ o →
        or_else (queue_at es q) (queue_at (reserved_all queues es) q)
        ≡ or_else (queue_at es q) (queue_at queues q)
    by q None h = rw h (queue-reserved_all queues es q h)
    by q (Some v) h = rw h refl

-- no queue is empty after queues were put of which none is
pub filled-with_queues : (queues es : Queues) → AreFilled queues → AreFilled es →
    AreFilled (with_queues queues es)
filled-with_queues queues [] a b = a
filled-with_queues queues (e ∷ es) a b =
    each-insert_entry path_cmp_total (λ x. IsNonempty x.1) (with_queues queues es) e.0 e.1
    (filled-with_queues queues es a b.1) b.0 (λ y h. b.0)

-- what is not among both is in neither
neither : (a b : List (ℕ × PathValue)) (s : ℕ) (p : PathValue) → has_pair (a ++ b) s p ≡ false →
    (has_pair a s p ≡ false) × (has_pair b s p ≡ false)
neither a b s p h = by (has_pair a s p) (has_pair b s p) (sym (list_any-append _ a b) ∙ h)
  where
    by : (x y : Bool) → (x || y) ≡ false → (x ≡ false) × (y ≡ false)
    by true y e = absurd (true≢false e)
    by false y e = (refl, e)

-- a path without the pair of a time has not that time
no_time : (o : Option ℕ) (s : ℕ) (p : PathValue) → has_pair (pair_of o p) s p ≡ false → is_time o s ≡ false
no_time None s p h = refl
no_time (Some n) s p h = at (sym (or_false ((s == n) && true)) ∙ here)
  where
    or_false : (b : Bool) → (b || false) ≡ b
    or_false true = refl
    or_false false = refl

    here : (((s == n) && true) || false) ≡ false
    here = ap (λ b. b || false) (sym (same_front s n p p
        ∙ ap (λ o. (s == n) && o) (rw (tied_itself path_cmp_total p) refl))) ∙ h

    at : ((s == n) && true) ≡ false → (n == s) ≡ false
    at e = by (s == n) refl e
      where
        by : (b : Bool) → (s == n) ≡ b → (b && true) ≡ false → (n == s) ≡ false
        by true q e = absurd (true≢false e)
        by false q e = grind (arith, nat_tests)

-- the pairs at the paths of these queues tell the queues before they are put from those after
pub puts_told : (queues es : Queues) → TellApart (put_pairs queues es) queues (with_queues queues es)
puts_told queues [] s p h = refl
puts_told queues (e ∷ es) s p h =
    let parts = neither (put_pairs_at queues e.0 e.1) (put_pairs queues es) s p h in
    let here = neither (front_pair queues e.0) (pair_of (front_time e.1) e.0) s p parts.0 in
    by here.0 here.1 (puts_told queues es s p parts.1) (is_at (path_cmp p) e.0) refl
  where
    by : has_pair (front_pair queues e.0) s p ≡ false → has_pair (pair_of (front_time e.1) e.0) s p ≡ false →
        is_front (with_queues queues es) s p ≡ is_front queues s p → (b : Bool) → is_at (path_cmp p) e.0 ≡ b →
        is_front (with_queue (with_queues queues es) e.0 e.1) s p ≡ is_front queues s p
    by was comes more true i =
        let same : p ≡ e.0 = same_at p e.0 i in
        ap (λ q. is_front (with_queue (with_queues queues es) e.0 e.1) s q) same
        ∙ ap (λ o. is_time (front_of o) s) (lookup-insert_same path_cmp_total (with_queues queues es) e.0 e.1)
        ∙ no_time (front_time e.1) s e.0 (ap (λ q. has_pair (pair_of (front_time e.1) e.0) s q) (sym same)
        ∙ comes)
        ∙ sym (ap (λ q. is_front queues s q) same
        ∙ no_time (front_of (queue_at queues e.0)) s e.0
        (ap (λ q. has_pair (front_pair queues e.0) s q) (sym same) ∙ was))
    by was comes more false i =
        ap (λ o. is_time (front_of o) s) (lookup-insert_other path_cmp_total (with_queues queues es) e.0 p e.1
        i) ∙ more

-- it follows a change, or a refusal, after which the pairs that tell the two apart are settled
pub index_follows : {T E : Type 0} (r : Result T E) (fs gs hs : BTreeSet (ℕ × PathValue))
    (pairs : List (ℕ × PathValue)) (m n after : Queues) → IsIndexed fs m → AreFilled after →
    OnOk r (n ≡ after) → OnErr r (n ≡ m) → OnOk r (IsWith pairs fs gs) → IsKept fs gs → DifferAt pairs fs gs →
    TellApart pairs m after → IsSettled n pairs gs hs → IsIndexed hs n
index_follows (Ok x) fs gs hs pairs m n after i full ok err put grown others apart settled = record {
  exact = settled_ok fs gs hs pairs m n i settled put (λ t p h. ap (λ q. is_front q t p) ok ∙ apart t p h);
  filled = rw ok full;
}
index_follows (Err x) fs gs hs pairs m n after i full ok err put grown others apart settled = record {
  exact = settled_err fs gs hs pairs m n i settled err grown others;
  filled = rw err i.filled;
}
