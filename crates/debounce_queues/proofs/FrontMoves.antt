-- What is indexed stays so: by a push, a removal, and what is dropped below a path.
use Rattle.std.proofs.Common.{◌≡◌, ℕ, Bool, true, false, cond, not, ◌&&◌, refl, ap, sym, ◌∙◌, arith, Option, Some, None, List, [], ◌∷◌, ◌++◌, true≢false}
use Rattle.std.specs.Prelude.{filter, OnOk, OnErr}
use Rattle.std.specs.declared.result.Result.{Result}
use Rattle.std.specs.declared.result.Result.TheVariants.{Ok, Err}
use Rattle.std.specs.Bool.{◌==◌}
use Rattle.std.specs.Ordering.{is_eq}
use Rattle.std.specs.declared.cmp.Ordering.{Ordering}
use Rattle.std.specs.declared.cmp.Ordering.TheVariants.{Less, Equal, Greater}
use Rattle.std.specs.BTreeMap.{is_at}
use Rattle.std.specs.List.{list_any}
use Rattle.std.proofs.lemmas.Bool.Decides.{nat_tests}
use Rattle.std.proofs.lemmas.Map.Views.{any-filter_same}
use Rattle.std.proofs.lemmas.Map.Entries.{lookup-filter-keys}
use Rattle.notify_paths.specs.Path.{PathValue, path_cmp, is_below}
use Rattle.notify_paths.specs.PathLaws.{path_cmp_total}
use Rattle.notify_types.specs.Event.{Timed}
use Rattle.notify_paths.proofs.Prefixes.{same_path}
use Rattle.std.specs.List.Sorted.{IsStrictlySortedBy}
use Rattle.std.specs.Map.{keys_of, set_value}
use Rattle.std.proofs.lemmas.Map.Steps.{set_value_same}
use Rattle.debounce_model.proofs.QueueLemmas.{push_appended}
use Rattle.debounce_model.specs.Queues.{Queues, queue_at, with_queue, without_queue, without_below, push, skips, appended}
use Rattle.debounce_model.specs.WellFormed.{IsNonempty}
use Rattle.debounce_model.proofs.Entries.{each-remove_entry, each-filter, each-lookup}
use Rattle.debounce_queues.specs.Fronts.{front_of, is_time, front_cmp, has, IsIndexed, front_time}
use Rattle.debounce_queues.proofs.FrontLemmas.{Fronts, indexed_after, indexed-with, same_front}

-- the pairs of a path stay
pub same_pairs : (fs : Fronts) (path : PathValue) (o : Option ℕ) → ((t : ℕ) → has fs t path ≡ is_time o t) →
    (t : ℕ) (p : PathValue) → has fs t p ≡ cond (is_at (path_cmp path) p) (is_time o t) (has fs t p)
same_pairs fs path o one t p = by (path_cmp path p) refl
  where
    by : (r : Ordering) → path_cmp path p ≡ r → has fs t p ≡ cond (is_eq r) (is_time o t) (has fs t p)
    by Less q = refl
    by Greater q = refl
    by Equal q = ap (λ z. has fs t z) (sym (same_path path p q)) ∙ one t

-- an event behind others leaves the front
behind : (q : List Timed) (x : Timed) → IsNonempty q → (front_time (q ++ x ∷ []) ≡ front_time q)
    × IsNonempty (q ++ x ∷ [])
behind [] x n = absurd n
behind (y ∷ q) x n = (refl, tt)

-- a push behind others
pub indexed-push : (fs : Fronts) (queues : Queues) (path : PathValue) (x : Timed) (q : List Timed) →
    IsIndexed fs queues → queue_at queues path ≡ Some q → IsIndexed fs (push queues path x)
indexed-push fs queues path x q i h = rw h (by (skips q x.event.kind))
  where
    full : IsNonempty q
    full = (each-lookup path_cmp_total (λ e. IsNonempty e.1) queues path q i.filled h).2

    by : (b : Bool) → IsIndexed fs (cond b queues (with_queue queues path (q ++ x ∷ [])))
    by true = i
    by false = indexed-with fs fs queues (with_queue queues path (q ++ x ∷ [])) path (q ++ x ∷ []) i
        (same_pairs fs path (front_time (q ++ x ∷ [])) (λ t. i.exact t path ∙ rw (h, (behind q x full).0) refl))
        refl (behind q x full).1

-- an event is put behind others, or refused
pub indexed-append : {T E : Type 0} (r : Result T E) (fs : Fronts) (queues after : Queues) (path : PathValue)
    (x : Timed) (q w : List Timed) → IsIndexed fs queues → IsStrictlySortedBy path_cmp (keys_of queues) →
    queue_at queues path ≡ Some q → after ≡ set_value (is_at (path_cmp path)) queues w →
    OnOk r (w ≡ appended q x) → OnErr r (w ≡ q) → IsIndexed fs after
indexed-append (Ok y) fs queues after path x q w i s h e ok err =
    rw (e ∙ ap (set_value (is_at (path_cmp path)) queues) ok ∙ push_appended queues path x q s h)
    (indexed-push fs queues path x q i h)
indexed-append (Err y) fs queues after path x q w i s h e ok err =
    rw (e ∙ ap (set_value (is_at (path_cmp path)) queues) err
    ∙ set_value_same (is_at (path_cmp path)) queues q h) i

-- a queue is taken out
pub indexed-without : (fs gs : Fronts) (queues after : Queues) (path : PathValue) → IsIndexed fs queues →
    ((t : ℕ) (p : PathValue) → has gs t p ≡ cond (is_at (path_cmp path) p) false (has fs t p)) →
    ((p : PathValue) → queue_at after p ≡ cond (is_at (path_cmp path) p) None (queue_at queues p)) →
    after ≡ without_queue queues path → IsIndexed gs after
indexed-without fs gs queues after path i h q e =
    indexed_after fs gs queues after path None i h q
    (rw e (each-remove_entry path_cmp_total (λ e. IsNonempty e.1) (is_at (path_cmp path)) queues i.filled))

-- what lies below a path goes
pub indexed-below : (fs gs : Fronts) (queues after : Queues) (path : PathValue) → IsIndexed fs queues →
    ((t : ℕ) (p : PathValue) → has gs t p ≡ (not (is_below p path) && has fs t p)) →
    after ≡ without_below queues path → IsIndexed gs after
indexed-below fs gs queues after path i h e = rw e (record {
  exact = λ t p. h t p ∙ by t p (not (is_below p path)) ∙ sym (ap (λ r. is_time (front_of r) t) (found p));
  filled = each-filter path_cmp_total (λ e. IsNonempty e.1) (λ e. not (is_below e.0 path)) queues i.filled;
})
  where
    same_at : (p k : PathValue) → is_at (path_cmp p) k ≡ true → p ≡ k
    same_at p k b = at (path_cmp p k) refl b
      where
        at : (o : Ordering) → path_cmp p k ≡ o → is_eq o ≡ true → p ≡ k
        at Less q b = cc
        at Greater q b = cc
        at Equal q b = same_path p k q

    found : (p : PathValue) → queue_at (without_below queues path) p
        ≡ cond (not (is_below p path)) (queue_at queues p) None
    found p = lookup-filter-keys (is_at (path_cmp p)) (λ k. not (is_below k path)) (not (is_below p path))
        (λ k b. ap (λ z. not (is_below z path)) (sym (same_at p k b))) queues

    by : (t : ℕ) (p : PathValue) (b : Bool) →
        (b && has fs t p) ≡ is_time (front_of (cond b (queue_at queues p) None)) t
    by t p true = i.exact t p
    by t p false = refl

-- both parts of a test that passes
pub and_both : (b c : Bool) → (b && c) ≡ true → (b ≡ true) × (c ≡ true)
and_both true c h = (refl, h)
and_both false c h = absurd (true≢false (sym h))

-- paths that an order ties
pub tied_path : (p k : PathValue) → is_at (path_cmp p) k ≡ true → p ≡ k
tied_path p k b = at (path_cmp p k) refl b
  where
    at : (o : Ordering) → path_cmp p k ≡ o → is_eq o ≡ true → p ≡ k
    at Less q b = cc
    at Greater q b = cc
    at Equal q b = same_path p k q

-- the pairs that a filter leaves
pub filtered : (p : ℕ → PathValue → Bool) (ks : List (ℕ × PathValue)) (t : ℕ) (q : PathValue) →
    list_any (is_at (front_cmp (t, q))) (filter (λ k. p k.0 k.1) ks)
    ≡ (p t q && list_any (is_at (front_cmp (t, q))) ks)
filtered p ks t q = any-filter_same (is_at (front_cmp (t, q))) (λ k. p k.0 k.1) (p t q) same ks
  where
    number : (s n : ℕ) → (s == n) ≡ true → s ≡ n
    number s n h = grind (arith, nat_tests)

    same : (k : ℕ × PathValue) → is_at (front_cmp (t, q)) k ≡ true → p k.0 k.1 ≡ p t q
    same k h =
        let both = and_both (t == k.0) (is_at (path_cmp q) k.1) (sym (same_front t k.0 q k.1) ∙ h) in
        let a : t ≡ k.0 = number t k.0 both.0 in
        let b : q ≡ k.1 = tied_path q k.1 both.1 in
        cc

-- what a look through all leaves
pub tidied : (fs gs : Fronts) (m : Queues) →
    gs.keys ≡ filter (λ k. is_time (front_of (queue_at m k.1)) k.0) fs.keys →
    ((t : ℕ) (p : PathValue) → is_time (front_of (queue_at m p)) t ≡ true → has fs t p ≡ true) →
    (t : ℕ) (p : PathValue) → has gs t p ≡ is_time (front_of (queue_at m p)) t
tidied fs gs m e covered t p =
    ap (list_any (is_at (front_cmp (t, p)))) e
    ∙ filtered (λ t p. is_time (front_of (queue_at m p)) t) fs.keys t p
    ∙ by (is_time (front_of (queue_at m p)) t) refl
  where
    by : (b : Bool) → is_time (front_of (queue_at m p)) t ≡ b → (b && has fs t p) ≡ b
    by true q = covered t p q
    by false q = refl
