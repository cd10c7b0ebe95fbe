-- The index of the fronts: what an insert and a removal make of it.
use Rattle.std.proofs.Common.{◌≡◌, ℕ, Bool, true, false, cond, not, ◌&&◌, ◌||◌, refl, ap, sym, ◌∙◌, arith, Option, Some, List, [], ◌∷◌, ◌≢◌}
use Rattle.std.specs.Bool.{◌==◌}
use Rattle.std.specs.Ordering.{nat_cmp, is_eq}
use Rattle.std.specs.declared.cmp.Ordering.{Ordering}
use Rattle.std.specs.declared.cmp.Ordering.TheVariants.{Less, Equal, Greater}
use Rattle.std.specs.Cmp.{tied_then}
use Rattle.std.specs.BTreeMap.{is_at}
use Rattle.std.specs.BTreeSet.{BTreeSet, contains}
use Rattle.std.proofs.lemmas.Bool.Decides.{nat_tests}
use Rattle.notify_paths.specs.Path.{PathValue, path_cmp}
use Rattle.notify_paths.specs.PathLaws.{path_cmp_total}
use Rattle.notify_types.specs.Event.{Timed}
use Rattle.notify_paths.proofs.Prefixes.{same_path}
use Rattle.std.proofs.lemmas.Cmp.{tied_itself}
use Rattle.std.specs.Ordering.{ordering_reverse}
use Rattle.std.specs.List.{AllByRecursion}
use Rattle.debounce_model.specs.Queues.{Queues, queue_at, with_queue}
use Rattle.debounce_model.specs.WellFormed.{IsNonempty}
use Rattle.debounce_model.proofs.Entries.{lookup-insert_same, lookup-insert_other, each-insert_entry}
use Rattle.debounce_queues.specs.Fronts.{front_of, is_time, front_cmp, has, IsIndexed, front_time}

-- numbers that compare equal are equal
pub nat_same : (s t : ℕ) → is_eq (nat_cmp t s) ≡ (s == t)
nat_same s t = grind (arith, nat_tests)

-- a pair is another one where both parts are
pub same_front : (s t : ℕ) (p q : PathValue) → is_at (front_cmp (s, p)) (t, q)
    ≡ ((s == t) && is_at (path_cmp p) q)
same_front s t p q = sym (tied_then (nat_cmp t s) (path_cmp p q))
    ∙ ap (λ b. b && is_eq (path_cmp p q)) (nat_same s t)

abbrev pub Fronts : Type 0
Fronts = BTreeSet (ℕ × PathValue)

-- a pair that is put in
pub inserted : (fs gs : Fronts) (s : ℕ) (path : PathValue) →
    ((k : ℕ × PathValue) → contains front_cmp gs k
    ≡ cond (is_at (front_cmp (s, path)) k) true (contains front_cmp fs k)) → (t : ℕ) (p : PathValue) →
    has gs t p ≡ cond (is_at (path_cmp path) p) ((s == t) || has fs t path) (has fs t p)
inserted fs gs s path h t p = h (t, p) ∙ ap (λ b. cond b true (has fs t p)) (same_front s t path p)
    ∙ by (path_cmp path p) refl
  where
    two : (b c : Bool) → cond (b && true) true c ≡ (b || c)
    two true c = refl
    two false c = refl

    none : (b c : Bool) → cond (b && false) true c ≡ c
    none true c = refl
    none false c = refl

    by : (o : Ordering) → path_cmp path p ≡ o → cond ((s == t) && is_eq o) true (has fs t p)
        ≡ cond (is_eq o) ((s == t) || has fs t path) (has fs t p)
    by Less q = none (s == t) (has fs t p)
    by Greater q = none (s == t) (has fs t p)
    by Equal q = let same : path ≡ p = same_path path p q in
        ap (λ z. cond ((s == t) && true) true (has fs t z)) (sym same) ∙ two (s == t) (has fs t path)

-- a pair that is taken out
pub removed : (fs gs : Fronts) (s : ℕ) (path : PathValue) →
    ((k : ℕ × PathValue) → contains front_cmp gs k
    ≡ cond (is_at (front_cmp (s, path)) k) false (contains front_cmp fs k)) → (t : ℕ) (p : PathValue) →
    has gs t p ≡ cond (is_at (path_cmp path) p) (not (s == t) && has fs t path) (has fs t p)
removed fs gs s path h t p = h (t, p) ∙ ap (λ b. cond b false (has fs t p)) (same_front s t path p)
    ∙ by (path_cmp path p) refl
  where
    two : (b c : Bool) → cond (b && true) false c ≡ (not b && c)
    two true c = refl
    two false c = refl

    none : (b c : Bool) → cond (b && false) false c ≡ c
    none true c = refl
    none false c = refl

    by : (o : Ordering) → path_cmp path p ≡ o → cond ((s == t) && is_eq o) false (has fs t p)
        ≡ cond (is_eq o) (not (s == t) && has fs t path) (has fs t p)
    by Less q = none (s == t) (has fs t p)
    by Greater q = none (s == t) (has fs t p)
    by Equal q = let same : path ≡ p = same_path path p q in
        ap (λ z. cond ((s == t) && true) false (has fs t z)) (sym same) ∙ two (s == t) (has fs t path)

-- the only pair of a path that had none
pub first_pair : (fs gs : Fronts) (s : ℕ) (path : PathValue) → ((t : ℕ) → has fs t path ≡ false) →
    ((k : ℕ × PathValue) → contains front_cmp gs k
    ≡ cond (is_at (front_cmp (s, path)) k) true (contains front_cmp fs k)) → (t : ℕ) (p : PathValue) →
    has gs t p ≡ cond (is_at (path_cmp path) p) (s == t) (has fs t p)
first_pair fs gs s path none h t p = inserted fs gs s path h t p
    ∙ ap (λ b. cond (is_at (path_cmp path) p) b (has fs t p)) (ap (λ b. (s == t) || b) (none t)
    ∙ or_false (s == t))
  where
    or_false : (b : Bool) → (b || false) ≡ b
    or_false true = refl
    or_false false = refl

-- it is put in and taken out again
pub out_again : (fs gs hs : Fronts) (s : ℕ) (path : PathValue) → ((t : ℕ) → has fs t path ≡ false) →
    ((k : ℕ × PathValue) → contains front_cmp gs k
    ≡ cond (is_at (front_cmp (s, path)) k) true (contains front_cmp fs k)) →
    ((k : ℕ × PathValue) → contains front_cmp hs k
    ≡ cond (is_at (front_cmp (s, path)) k) false (contains front_cmp gs k)) → (t : ℕ) (p : PathValue) →
    has hs t p ≡ has fs t p
out_again fs gs hs s path none g h t p =
    h (t, p) ∙ ap (λ b. cond (is_at (front_cmp (s, path)) (t, p)) false b) (g (t, p))
    ∙ by (is_at (path_cmp path) p) refl
  where
    put_out : (b c : Bool) → (b ≡ true → c ≡ false) → cond b false (cond b true c) ≡ c
    put_out true c h = sym (h refl)
    put_out false c h = refl

    and_right : (b c : Bool) → (b && c) ≡ true → c ≡ true
    and_right true c h = h
    and_right false c h = cc

    here : is_at (front_cmp (s, path)) (t, p) ≡ true → has fs t p ≡ false
    here q = at (path_cmp path p) refl
        (and_right (s == t) (is_at (path_cmp path) p) (sym (same_front s t path p) ∙ q))
      where
        at : (o : Ordering) → path_cmp path p ≡ o → is_eq o ≡ true → has fs t p ≡ false
        at Less e b = cc
        at Greater e b = cc
        at Equal e b = ap (λ z. has fs t z) (sym (same_path path p e)) ∙ none t

    by : (b : Bool) → is_at (path_cmp path) p ≡ b →
        cond (is_at (front_cmp (s, path)) (t, p)) false
        (cond (is_at (front_cmp (s, path)) (t, p)) true (contains front_cmp fs (t, p))) ≡ has fs t p
    by b q = put_out (is_at (front_cmp (s, path)) (t, p)) (has fs t p) here

-- of two pairs of a path the old one is taken out, if it is of another time
pub old_out : (gs hs : Fronts) (was s : ℕ) (path : PathValue) → (was ≢ s) →
    ((t : ℕ) → has gs t path ≡ ((s == t) || (was == t))) →
    ((k : ℕ × PathValue) → contains front_cmp hs k
    ≡ cond (is_at (front_cmp (was, path)) k) false (contains front_cmp gs k)) → (t : ℕ) (p : PathValue) →
    has hs t p ≡ cond (is_at (path_cmp path) p) (s == t) (has gs t p)
old_out gs hs was s path apart two h t p = removed gs hs was path h t p ∙ by (is_at (path_cmp path) p)
  where
    only : (not (was == t) && ((s == t) || (was == t))) ≡ (s == t)
    only = grind (arith, nat_tests)

    by : (b : Bool) → cond b (not (was == t) && has gs t path) (has gs t p) ≡ cond b (s == t) (has gs t p)
    by true = ap (λ b. not (was == t) && b) (two t) ∙ only
    by false = refl

-- what two steps make of a path, if the second says all of it
pub last_says : (path : PathValue) (a b c : Bool) (p : PathValue) →
    cond (is_at (path_cmp path) p) a (cond (is_at (path_cmp path) p) b c) ≡ cond (is_at (path_cmp path) p) a c
last_says path a b c p = by (is_at (path_cmp path) p)
  where
    by : (d : Bool) → cond d a (cond d b c) ≡ cond d a c
    by true = refl
    by false = refl

-- the pairs of the path itself, after one was put in
pub inserted_here : (fs gs : Fronts) (s : ℕ) (path : PathValue) →
    ((k : ℕ × PathValue) → contains front_cmp gs k
    ≡ cond (is_at (front_cmp (s, path)) k) true (contains front_cmp fs k)) → (t : ℕ) →
    has gs t path ≡ ((s == t) || has fs t path)
inserted_here fs gs s path h t = inserted fs gs s path h t path ∙ rw (tied_itself path_cmp_total path) refl

-- a time is one of two that are the same, or of one and none
pub one_time : (s t : ℕ) → ((s == t) || (s == t)) ≡ (s == t)
one_time s t = by (s == t)
  where
    by : (b : Bool) → (b || b) ≡ b
    by true = refl
    by false = refl

-- .. or none
pub or_none : (s t : ℕ) → ((s == t) || false) ≡ (s == t)
or_none s t = by (s == t)
  where
    by : (b : Bool) → (b || false) ≡ b
    by true = refl
    by false = refl

-- the only pair of a path stays
pub kept_pair : (fs : Fronts) (s : ℕ) (path : PathValue) → ((t : ℕ) → has fs t path ≡ (s == t)) →
    (t : ℕ) (p : PathValue) → has fs t p ≡ cond (is_at (path_cmp path) p) (s == t) (has fs t p)
kept_pair fs s path one t p = by (path_cmp path p) refl
  where
    by : (o : Ordering) → path_cmp path p ≡ o → has fs t p ≡ cond (is_eq o) (s == t) (has fs t p)
    by Less q = refl
    by Greater q = refl
    by Equal q = ap (λ z. has fs t z) (sym (same_path path p q)) ∙ one t

-- the only pair of a path is taken out
pub last_pair : (fs gs : Fronts) (s : ℕ) (path : PathValue) → ((t : ℕ) → has fs t path ≡ (s == t)) →
    ((k : ℕ × PathValue) → contains front_cmp gs k
    ≡ cond (is_at (front_cmp (s, path)) k) false (contains front_cmp fs k)) → (t : ℕ) (p : PathValue) →
    has gs t p ≡ cond (is_at (path_cmp path) p) false (has fs t p)
last_pair fs gs s path one h t p = removed fs gs s path h t p
    ∙ ap (λ b. cond (is_at (path_cmp path) p) b (has fs t p)) (ap (λ b. not (s == t) && b) (one t)
    ∙ none (s == t))
  where
    none : (b : Bool) → (not b && b) ≡ false
    none true = refl
    none false = refl

-- a path without a pair
pub no_pair : (fs : Fronts) (path : PathValue) → ((t : ℕ) → has fs t path ≡ false) → (t : ℕ) (p : PathValue) →
    has fs t p ≡ cond (is_at (path_cmp path) p) false (has fs t p)
no_pair fs path none t p = by (path_cmp path p) refl
  where
    by : (o : Ordering) → path_cmp path p ≡ o → has fs t p ≡ cond (is_eq o) false (has fs t p)
    by Less q = refl
    by Greater q = refl
    by Equal q = ap (λ z. has fs t z) (sym (same_path path p q)) ∙ none t

-- a queue that has a front is not empty
pub front_nonempty : (q : List Timed) (t : ℕ) → front_time q ≡ Some t → IsNonempty q
front_nonempty [] t e = cc
front_nonempty (x ∷ q) t e = tt

-- what is indexed, after one path got other fronts
pub indexed_after : (fs gs : Fronts) (queues after : Queues) (path : PathValue) (o : Option (List Timed)) →
    IsIndexed fs queues →
    ((t : ℕ) (p : PathValue) →
    has gs t p ≡ cond (is_at (path_cmp path) p) (is_time (front_of o) t) (has fs t p)) →
    ((p : PathValue) → queue_at after p ≡ cond (is_at (path_cmp path) p) o (queue_at queues p)) →
    AllByRecursion (λ e. IsNonempty e.1) after → IsIndexed gs after
indexed_after fs gs queues after path o i h q filled = record {
  exact = λ t p. h t p ∙ by t p (is_at (path_cmp path) p) ∙ sym (ap (λ r. is_time (front_of r) t) (q p));
  filled = filled;
}
  where
    by : (t : ℕ) (p : PathValue) (b : Bool) → cond b (is_time (front_of o) t) (has fs t p)
        ≡ is_time (front_of (cond b o (queue_at queues p))) t
    by t p true = refl
    by t p false = i.exact t p

-- what a look-up finds after an insert, by the key that was inserted
pub queue_at-with : (queues : Queues) (path : PathValue) (v : List Timed) (p : PathValue) →
    queue_at (with_queue queues path v) p ≡ cond (is_at (path_cmp path) p) (Some v) (queue_at queues p)
queue_at-with queues path v p = by (path_cmp path p) refl
  where
    by : (o : Ordering) → path_cmp path p ≡ o → queue_at (with_queue queues path v) p
        ≡ cond (is_eq o) (Some v) (queue_at queues p)
    by Less q = lookup-insert_other path_cmp_total queues path p v (ap is_eq (path_cmp_total.antisymm p path
        ∙ ap ordering_reverse q))
    by Greater q =
        lookup-insert_other path_cmp_total queues path p v (ap is_eq (path_cmp_total.antisymm p path
        ∙ ap ordering_reverse q))
    by Equal q = ap (λ z. queue_at (with_queue queues path v) z) (sym (same_path path p q))
        ∙ lookup-insert_same path_cmp_total queues path v

-- an index, where a queue is put at a path
pub indexed-with : (fs gs : Fronts) (queues after : Queues) (path : PathValue) (v : List Timed) →
    IsIndexed fs queues →
    ((t : ℕ) (p : PathValue) →
    has gs t p ≡ cond (is_at (path_cmp path) p) (is_time (front_time v) t) (has fs t p)) →
    after ≡ with_queue queues path v → IsNonempty v → IsIndexed gs after
indexed-with fs gs queues after path v i h e n =
    rw e (indexed_after fs gs queues (with_queue queues path v) path (Some v) i h (queue_at-with queues path v)
    (each-insert_entry path_cmp_total _ queues path v i.filled n (λ y q. n)))

-- an index, where nothing has changed that it tells of
pub indexed-same : (fs gs : Fronts) (queues after : Queues) → IsIndexed fs queues →
    ((t : ℕ) (p : PathValue) → has gs t p ≡ has fs t p) → after ≡ queues → IsIndexed gs after
indexed-same fs gs queues after i h e = rw e (record { exact = λ t p. h t p ∙ i.exact t p; filled = i.filled })
