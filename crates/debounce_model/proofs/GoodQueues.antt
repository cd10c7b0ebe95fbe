-- Queues with all their laws: what a push, a removal and other moves keep.
use Rattle.std.proofs.Common.{◌≡◌, ℕ, ◌+◌, ◌≤◌, Bool, true, false, cond, List, [], ◌∷◌, ◌++◌, refl, sym, Option, Some, None, not, arith, length, length-append, drop}
use Rattle.std.specs.Option.{option_map, unwrap_or}
use Rattle.std.specs.Map.{keys_of}
use Rattle.std.specs.BTreeMap.{is_at}
use Rattle.std.specs.List.Sorted.{IsStrictlySortedBy}
use Rattle.std.proofs.lemmas.Map.Entries.{sum_by-insert_entry, sum_by-remove_entry}
use Rattle.notify_types.specs.Kinds.{is_removal}
use Rattle.notify_paths.specs.Path.{PathValue, path_cmp, is_below}
use Rattle.notify_paths.specs.PathLaws.{path_cmp_total}
use Rattle.notify_types.specs.Event.{Timed}
use Rattle.notify_paths.proofs.Prefixes.{same_path}
use Rattle.debounce_model.specs.Queues.{Queues, queue_at, push, skips, pushed_on, with_queue, without_below, without_queue, removal, was_created_at, waiting_in}
use Rattle.debounce_model.specs.Rename.{is_both}
use Rattle.debounce_model.specs.WellFormed.{IsFirst, kept_by, IsKeyed, IsNonempty, HasNoBoth, IsBothInFront, IsQueue, AreQueues}
use Rattle.debounce_model.proofs.Entries.{each-insert_entry, each-filter, each-remove_entry, each-lookup, sorted-insert_entry, sorted-filter, sorted-remove_entry, sum-filter}

-- queues with all their laws, of at most n events
pub record AreGood (queues : Queues) (n : ℕ) : Type 0 where
  pub kept : AreQueues queues
  pub ordered : IsStrictlySortedBy path_cmp (keys_of queues)
  pub bounded : waiting_in queues ≤ n

-- no event but the first is a joined rename
abbrev pub IsBothFirst : List Timed → Type 0
IsBothFirst events = HasNoBoth (drop 1 events)

-- after a removal (true) a joined rename may come first, after another event none
abbrev pub IsBothBehind : Bool → List Timed → Type 0
IsBothBehind removed events = HasNoBoth (cond removed (drop 1 events) events)

-- a keyed queue with a keyed event behind it is keyed
keyed-append : (p : PathValue) (q : List Timed) (x : Timed) → IsKeyed p q → IsFirst p (kept_by x) →
    IsKeyed p (q ++ x ∷ [])
keyed-append p [] x k f = (f, tt)
keyed-append p (y ∷ q) x k f = (k.0, keyed-append p q x k.1 f)

-- without joined renames, also with an event behind that is none
pub no_both-append : (q : List Timed) (x : Timed) → HasNoBoth q → is_both x ≡ false → HasNoBoth (q ++ x ∷ [])
no_both-append [] x k f = (f, tt)
no_both-append (y ∷ q) x k f = (k.0, no_both-append q x k.1 f)

-- a joined rename stays in front with an event behind that is none
in_front-append : (q : List Timed) (x : Timed) → IsBothInFront q → is_both x ≡ false →
    IsBothInFront (q ++ x ∷ [])
in_front-append [] x k f = by (is_removal x.event.kind)
  where
    by : (b : Bool) → IsBothBehind b []
    by true = tt
    by false = tt
in_front-append (y ∷ q) x k f = by (is_removal y.event.kind) k
  where
    first : (q : List Timed) → IsBothFirst q → IsBothFirst (q ++ x ∷ [])
    first [] k = tt
    first (z ∷ q) k = no_both-append q x k f

    by : (b : Bool) → IsBothBehind b q → IsBothBehind b (q ++ x ∷ [])
    by true k = first q k
    by false k = no_both-append q x k f

-- an event that is alone in its queue
pub queue_of_one : (path : PathValue) (x : Timed) → IsFirst path (kept_by x) → IsQueue path (x ∷ [])
queue_of_one path x f = (tt, (f, tt), by (is_removal x.event.kind))
  where
    by : (b : Bool) → IsBothBehind b []
    by true = tt
    by false = tt

-- an event that is no joined rename is kept by its first path
kept_by_first : (path : PathValue) (x : Timed) → is_both x ≡ false → IsFirst path x.event.paths →
    IsFirst path (kept_by x)
kept_by_first path x b f = rw b f

-- a list with an event behind it is not empty
nonempty-append : (q : List Timed) (x : Timed) → IsNonempty (q ++ x ∷ [])
nonempty-append [] x = tt
nonempty-append (y ∷ q) x = tt

-- queues are good with a queue set, where no more wait than may
pub good-set : (queues : Queues) (path : PathValue) (new : List Timed) (n m : ℕ) → AreGood queues n →
    IsQueue path new →
    (length new + waiting_in queues ≤ m + unwrap_or (option_map length (queue_at queues path)) 0) →
    AreGood (with_queue queues path new) m
good-set queues path new n m g law b = record {
  kept = each-insert_entry path_cmp_total _ queues path new g.kept
      law (λ y q. rw (sym (same_path path y q)) law);
  ordered = sorted-insert_entry path_cmp_total queues path new g.ordered;
  bounded = omega (arith, sum_by-insert_entry length path_cmp_total queues path new g.ordered);
}

-- what waits at a path has the laws of its queue
pub found_queue : (queues : Queues) (path : PathValue) (q : List Timed) → AreQueues queues →
    queue_at queues path ≡ Some q → IsQueue path q
found_queue queues path q a h =
    let found = each-lookup path_cmp_total (λ e. IsQueue e.0 e.1) queues path q a h in
    rw (same_path path found.0 found.1) found.2

-- .. after a push
pub good-push : (queues : Queues) (path : PathValue) (x : Timed) (n : ℕ) → AreGood queues n →
    is_both x ≡ false → IsFirst path x.event.paths → AreGood (push queues path x) (n + 1)
good-push queues path x n g b f = by (queue_at queues path) refl
  where
    by : (o : Option (List Timed)) → queue_at queues path ≡ o → AreGood (pushed_on queues path x o) (n + 1)
    by None h = good-set queues path (x ∷ []) n (n + 1) g (queue_of_one path x (kept_by_first path x b f))
        (rw h (omega (arith, g.bounded)))
    by (Some q) h = at (skips q x.event.kind)
      where
        at : (b : Bool) → AreGood (cond b queues (with_queue queues path (q ++ x ∷ []))) (n + 1)
        at true = record { kept = g.kept; ordered = g.ordered; bounded = omega (arith, g.bounded) }
        at false =
            let law = found_queue queues path q g.kept h in
            good-set queues path (q ++ x ∷ []) n (n + 1) g (
              nonempty-append q x,
              keyed-append path q x law.1 (kept_by_first path x b f),
              in_front-append q x law.2 b,
            )
            (rw h (omega (arith, g.bounded, length-append q (x ∷ []))))

-- .. without those below a path
good-below : (queues : Queues) (path : PathValue) (n : ℕ) → AreGood queues n →
    AreGood (without_below queues path) n
good-below queues path n g =
    let p : PathValue × List Timed → Bool = λ e. not (is_below e.0 path) in
    let fewer = sum-filter path_cmp_total length p queues in
    record {
      kept = each-filter path_cmp_total _ p queues g.kept;
      ordered = sorted-filter path_cmp_total p queues g.ordered;
      bounded = omega (arith, fewer, g.bounded);
    }

-- .. without one of them
pub good-without : (queues : Queues) (path : PathValue) (n : ℕ) → AreGood queues n →
    AreGood (without_queue queues path) n
good-without queues path n g =
    let fewer = sum_by-remove_entry length (is_at (path_cmp path)) queues in
    record {
      kept = each-remove_entry path_cmp_total _ (is_at (path_cmp path)) queues g.kept;
      ordered = sorted-remove_entry path_cmp_total (is_at (path_cmp path)) queues g.ordered;
      bounded = omega (arith, fewer, g.bounded);
    }

-- .. where more may wait
pub good-more : (queues : Queues) (n m : ℕ) → AreGood queues n → n ≤ m → AreGood queues m
good-more queues n m g l = record { kept = g.kept; ordered = g.ordered; bounded = omega (arith, g.bounded) }

-- .. after a removal
pub good-removal : (queues : Queues) (path : PathValue) (x : Timed) (n : ℕ) → AreGood queues n →
    is_both x ≡ false → IsFirst path x.event.paths → AreGood (removal queues path x) (n + 1)
good-removal queues path x n g b f = by (was_created_at (queue_at queues path))
  where
    replaced : AreGood (with_queue (without_below queues path) path (x ∷ [])) (n + 1)
    replaced = let r = good-below queues path n g in
        good-set (without_below queues path) path (x ∷ []) n (n + 1) r
        (queue_of_one path x (kept_by_first path x b f)) (omega (arith, r.bounded))

    by : (b : Bool) →
        AreGood (cond b (without_queue (without_below queues path) path)
        (with_queue (without_below queues path) path (x ∷ []))) (n + 1)
    by true = good-more _ n (n + 1) (good-without (without_below queues path) path n
        (good-below queues path n g)) (omega arith)
    by false = replaced
