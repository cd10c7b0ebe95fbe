-- A tick by the index: which queues are due, and what is left of them.
use Rattle.std.proofs.Common.{◌≡◌, ℕ, ◌≤◌, Bool, true, false, cond, ◌&&◌, ◌||◌, refl, ap, sym, ◌∙◌, arith, Option, Some, None, List, [], ◌∷◌, ◌++◌, true≢false, rules}
use Rattle.std.specs.Bool.{◌==◌}
use Rattle.std.specs.Ordering.{is_eq, is_lt, nat_cmp, ordering_then, ordering_reverse}
use Rattle.std.specs.Cmp.{IsTotalOrder}
use Rattle.std.specs.declared.cmp.Ordering.{Ordering}
use Rattle.std.specs.declared.cmp.Ordering.TheVariants.{Less, Equal, Greater}
use Rattle.std.specs.BTreeMap.{is_at}
use Rattle.std.specs.List.{AllByRecursion, list_any}
use Rattle.std.specs.List.Sorted.{IsStrictlySortedBy}
use Rattle.std.specs.Map.{lookup, keys_of, set_value, remove_entry}
use Rattle.std.proofs.lemmas.Bool.Decides.{nat_tests}
use Rattle.std.proofs.lemmas.Cmp.{tied_itself, nat_cmp_total}
use Rattle.notify_paths.specs.Path.{PathValue, path_cmp}
use Rattle.notify_paths.specs.PathLaws.{path_cmp_total}
use Rattle.notify_types.specs.Event.{Timed}
use Rattle.debounce_model.specs.Queues.{Queues, queue_at}
use Rattle.debounce_model.specs.Due.{is_front_due, is_any_due, rest_after, rests, waits}
use Rattle.debounce_model.specs.WellFormed.{IsNonempty}
use Rattle.debounce_model.proofs.Entries.{insert_over, lookup-remove_same, lookup-remove_other}
use Rattle.std.specs.BTreeSet.{contains}
use Rattle.std.proofs.lemmas.List.Folds.{list_any-append}
use Rattle.debounce_queues.specs.declared.due.Due.{Due}
use Rattle.debounce_queues.specs.declared.due.Due.TheVariants.{Expired, Always}
use Rattle.debounce_queues.specs.Due.{is_due}
use Rattle.debounce_queues.specs.Due.{is_due_at}
use Rattle.debounce_queues.specs.Fronts.{front_of, is_time, front_cmp, has, IsIndexed, front_time}
use Rattle.debounce_queues.specs.FrontLaws.{front_cmp_total}
use Rattle.debounce_queues.specs.Steps.{is_due_front, front_after, is_due_pair, IsWithLater}
use Rattle.debounce_queues.proofs.FrontLemmas.{Fronts, same_front, queue_at-with}
use Rattle.debounce_queues.proofs.FrontMoves.{and_both, tied_path}

-- whether an event is due, its time says
pub due_time : (due : Due) (x : Timed) → is_due due x ≡ is_due_at due x.time
due_time (Expired timeout now) x = refl
due_time Always x = refl

-- what is not due makes what is later not due
pub due_later : (due : Due) (s t : ℕ) → s ≤ t → is_due_at due s ≡ false → is_due_at due t ≡ false
due_later (Expired timeout now) s t h d = grind (arith, nat_tests)
due_later Always s t h d = d

-- a number is itself
pub same_number : (n : ℕ) → (n == n) ≡ true
same_number n = grind (arith, nat_tests)

-- equal numbers
pub number_is : (s t : ℕ) → (s == t) ≡ true → s ≡ t
number_is s t h = grind (arith, nat_tests)

-- a pair that doesn't come before another has no later time
then_lt : (o r : Ordering) → is_lt (ordering_then o r) ≡ false → is_lt o ≡ false
then_lt Less r h = h
then_lt Equal r h = refl
then_lt Greater r h = refl

not_lt : (s t : ℕ) → is_lt (nat_cmp s t) ≡ false → t ≤ s
not_lt s t h = grind (arith, nat_tests)

pub no_later : (k q : ℕ × PathValue) → is_lt (front_cmp k q) ≡ false → k.0 ≤ q.0
no_later k q h = not_lt q.0 k.0 (then_lt (nat_cmp q.0 k.0) (path_cmp k.1 q.1) h)

module _ {K X : Type 0} {R : K → K → Ordering} (o : IsTotalOrder R) where
  found_behind : (e : K × X) (es fs : List (K × X)) → AllByRecursion (λ y. R e.0 y ≡ Less) (keys_of fs) →
      AllByRecursion (λ f. lookup (is_at (R f.0)) es ≡ Some f.1) fs →
      AllByRecursion (λ f. lookup (is_at (R f.0)) (e ∷ es) ≡ Some f.1) fs
  found_behind e es [] a h = tt
  found_behind e es (f ∷ fs) a h = (rw (o.antisymm f.0 e.0, a.0) h.0, found_behind e es fs a.1 h.1)

  -- each entry is found by its key
  pub all_found : (es : List (K × X)) → IsStrictlySortedBy R (keys_of es) →
      AllByRecursion (λ e. lookup (is_at (R e.0)) es ≡ Some e.1) es
  unfolding IsStrictlySortedBy
  all_found [] s = tt
  all_found (e ∷ es) s = (rw (tied_itself o e.0) refl, found_behind e es es s.0 (all_found es s.1))

-- no queue of these is due
pub none_due : (due : Due) (queues es : Queues) → AllByRecursion (λ e. queue_at queues e.0 ≡ Some e.1) es →
    ((p : PathValue) → is_due_front due (queue_at queues p) ≡ false) → is_any_due (is_due due) es ≡ false
none_due due queues [] f h = refl
none_due due queues (e ∷ es) f h =
    let here : is_front_due (is_due due) e.1 ≡ false = sym (ap (is_due_front due) f.0) ∙ h e.0 in
    rw here (none_due due queues es f.1 h)

-- a queue that is found and due
pub one_due : (due : Due) (es : Queues) (test : PathValue → Bool) (q : List Timed) → lookup test es ≡ Some q →
    is_front_due (is_due due) q ≡ true → is_any_due (is_due due) es ≡ true
one_due due [] test q h d = cc
one_due due (e ∷ es) test q h d = by (test e.0) refl (one_due due es test q)
  where
    or_true : (b : Bool) → (b || true) ≡ true
    or_true true = refl
    or_true false = refl

    by : (b : Bool) → test e.0 ≡ b → (lookup test es ≡ Some q → is_front_due (is_due due) q ≡ true →
        is_any_due (is_due due) es ≡ true) → is_any_due (is_due due) (e ∷ es) ≡ true
    by true t more = let same : Some e.1 ≡ Some q = rw t at h in let is : e.1 ≡ q = cc in rw (is, d) refl
    by false t more = rw (more (rw t at h) d) (or_true (is_front_due (is_due due) e.1))

-- where the index has no pair that is due, no queue is
pub quiet_index : (due : Due) (fs : Fronts) (queues : Queues) →
    ((t : ℕ) (p : PathValue) → is_due_at due t ≡ true → has fs t p ≡ is_time (front_of (queue_at queues p)) t) →
    ((t : ℕ) (p : PathValue) → is_due_at due t ≡ true → has fs t p ≡ false) → (p : PathValue) →
    is_due_front due (queue_at queues p) ≡ false
quiet_index due fs queues i h p = by (queue_at queues p) refl
  where
    by : (o : Option (List Timed)) → queue_at queues p ≡ o → is_due_front due o ≡ false
    by None e = refl
    by (Some []) e = refl
    by (Some (x ∷ xs)) e = at (is_due_at due x.time) refl
      where
        at : (b : Bool) → is_due_at due x.time ≡ b → is_due due x ≡ false
        at false d = due_time due x ∙ d
        at true d =
            let there : has fs x.time p ≡ true = i x.time p d ∙ rw e (same_number x.time) in
            absurd (true≢false (sym there ∙ h x.time p d))

-- a pair that is due is of a queue that is
pub due_queue : (due : Due) (o : Option (List Timed)) (t : ℕ) → is_time (front_of o) t ≡ true →
    is_due_at due t ≡ true → is_due_front due o ≡ true
due_queue due None t h d = absurd (true≢false (sym h))
due_queue due (Some []) t h d = absurd (true≢false (sym h))
due_queue due (Some (x ∷ xs)) t h d = let e : x.time ≡ t = number_is x.time t h in
    due_time due x ∙ ap (is_due_at due) e ∙ d

-- what is left has no front that is due
pub rest_quiet : (due : Timed → Bool) (q : List Timed) → is_front_due due (rest_after due q) ≡ false
rest_quiet due [] = refl
rest_quiet due (x ∷ q) = by (due x) refl (rest_quiet due q)
  where
    by : (b : Bool) → due x ≡ b → is_front_due due (rest_after due q) ≡ false →
        is_front_due due (cond b (rest_after due q) (x ∷ q)) ≡ false
    by true d more = more
    by false d more = d

-- what is left is left
pub rest_twice : (due : Timed → Bool) (q : List Timed) → rest_after due (rest_after due q) ≡ rest_after due q
rest_twice due [] = refl
rest_twice due (x ∷ q) = by (due x) refl (rest_twice due q)
  where
    by : (b : Bool) → due x ≡ b → rest_after due (rest_after due q) ≡ rest_after due q →
        rest_after due (cond b (rest_after due q) (x ∷ q)) ≡ cond b (rest_after due q) (x ∷ q)
    by true d more = more
    by false d more = rw d refl

-- one queue may be trimmed first
pub rests-set : (due : Timed → Bool) (es : Queues) (test : PathValue → Bool) (q : List Timed) →
    lookup test es ≡ Some q → rests due (set_value test es (rest_after due q)) ≡ rests due es
rests-set due [] test q h = refl
rests-set due (e ∷ es) test q h = by (test e.0) refl (rests-set due es test q)
  where
    by : (b : Bool) → test e.0 ≡ b → (lookup test es ≡ Some q → rests due (set_value test es (rest_after due q))
        ≡ rests due es) →
        rests due (cond b ((e.0, rest_after due q) ∷ es) (e ∷ set_value test es (rest_after due q)))
        ≡ rests due (e ∷ es)
    by true t more = let same : Some e.1 ≡ Some q = rw t at h in let is : q ≡ e.1 = cc in
        rw is (ap (λ r. cond (waits r) ((e.0, r) ∷ rests due es) (rests due es)) (rest_twice due e.1))
    by false t more =
        ap (λ r. cond (waits (rest_after due e.1)) ((e.0, rest_after due e.1) ∷ r) r) (more (rw t at h))

-- .. or taken out, where nothing is left
pub rests-gone : (due : Timed → Bool) (es : Queues) (test : PathValue → Bool) (q : List Timed) →
    lookup test es ≡ Some q → waits (rest_after due q) ≡ false → rests due (remove_entry test es) ≡ rests due es
rests-gone due [] test q h w = refl
rests-gone due (e ∷ es) test q h w = by (test e.0) refl (rests-gone due es test q)
  where
    by : (b : Bool) → test e.0 ≡ b → (lookup test es ≡ Some q → waits (rest_after due q) ≡ false →
        rests due (remove_entry test es) ≡ rests due es) → rests due (cond b es (e ∷ remove_entry test es))
        ≡ rests due (e ∷ es)
    by true t more = let same : Some e.1 ≡ Some q = rw t at h in let is : e.1 ≡ q = cc in rw (is, w) refl
    by false t more =
        ap (λ r. cond (waits (rest_after due e.1)) ((e.0, rest_after due e.1) ∷ r) r) (more (rw t at h) w)

-- where nothing is due, all is left
pub rests-quiet : (due : Timed → Bool) (es : Queues) → AllByRecursion (λ e. IsNonempty e.1) es →
    is_any_due due es ≡ false → rests due es ≡ es
rests-quiet due [] f h = refl
rests-quiet due ((k, []) ∷ es) f h = absurd f.0
rests-quiet due ((k, x ∷ q) ∷ es) f h = by (due x) refl (rests-quiet due es f.1)
  where
    by : (b : Bool) → due x ≡ b → (is_any_due due es ≡ false → rests due es ≡ es) → rests due ((k, x ∷ q) ∷ es)
        ≡ (k, x ∷ q) ∷ es
    by true d more = let no : true ≡ false = rw d at h in absurd (true≢false no)
    by false d more = let later : is_any_due due es ≡ false = rw d at h in rw (d, more later) (search rules)

-- what waits is not empty
pub waits_nonempty : (q : List Timed) → waits q ≡ true → IsNonempty q
waits_nonempty [] h = absurd (true≢false (sym h))
waits_nonempty (x ∷ q) h = tt

-- what does not wait has no front
pub waits_front : (q : List Timed) → waits q ≡ false → front_time q ≡ None
waits_front [] h = refl
waits_front (x ∷ q) h = let no : true ≡ false = search rules in absurd (true≢false no)

-- queues that are set to what is not empty
pub filled-set : (es : Queues) (test : PathValue → Bool) (w : List Timed) →
    AllByRecursion (λ e. IsNonempty e.1) es → IsNonempty w →
    AllByRecursion (λ e. IsNonempty e.1) (set_value test es w)
filled-set [] test w f n = f
filled-set (e ∷ es) test w f n = by (test e.0) (filled-set es test w f.1 n)
  where
    by : (b : Bool) → AllByRecursion (λ e. IsNonempty e.1) (set_value test es w) →
        AllByRecursion (λ e. IsNonempty e.1) (cond b ((e.0, w) ∷ es) (e ∷ set_value test es w))
    by true more = (n, f.1)
    by false more = (f.0, more)

-- a pair that is not due stays
pub pop_later : (due : Due) (k : ℕ × PathValue) (t : ℕ) (p : PathValue) (b : Bool) → is_due_at due k.0 ≡ true →
    is_due_at due t ≡ false → cond (is_at (front_cmp k) (t, p)) false b ≡ b
pop_later due k t p b d n = by (is_at (front_cmp k) (t, p)) refl
  where
    by : (c : Bool) → is_at (front_cmp k) (t, p) ≡ c → cond c false b ≡ b
    by false e = refl
    by true e =
        let both = and_both (k.0 == t) (is_at (path_cmp k.1) p) (sym (same_front k.0 t k.1 p) ∙ e) in
        let same : k.0 ≡ t = number_is k.0 t both.0 in
        absurd (true≢false (sym d ∙ ap (is_due_at due) same ∙ n))

-- a time is that of a front that is not due, so it is not due
pub front_not_due : (due : Due) (o : Option (List Timed)) (t : ℕ) → is_due_front due o ≡ false →
    is_due_at due t ≡ true → is_time (front_of o) t ≡ false
front_not_due due o t n d = by (is_time (front_of o) t) refl
  where
    by : (b : Bool) → is_time (front_of o) t ≡ b → b ≡ false
    by false e = refl
    by true e = absurd (true≢false (sym (due_queue due o t e d) ∙ n))

-- what passes one test passes another
any_more : {X : Type 0} (f g : X → Bool) → ((x : X) → f x ≡ true → g x ≡ true) → (xs : List X) →
    list_any f xs ≡ true → list_any g xs ≡ true
any_more f g h [] e = e
any_more f g h (x ∷ xs) e = by (f x) refl e (any_more f g h xs)
  where
    or_true : (b : Bool) → (b || true) ≡ true
    or_true true = refl
    or_true false = refl

    by : (b : Bool) → f x ≡ b → (b || list_any f xs) ≡ true → (list_any f xs ≡ true → list_any g xs ≡ true) →
        list_any g (x ∷ xs) ≡ true
    by true q e more = rw (h x q) refl
    by false q e more = rw (more e) (or_true (g x))

-- a pair that passes
witness : (f : ℕ × PathValue → Bool) (ks : List (ℕ × PathValue)) → list_any f ks ≡ true → (k : ℕ × PathValue)
    × (f k ≡ true) × (list_any (is_at (front_cmp k)) ks ≡ true)
witness f [] e = absurd (true≢false (sym e))
witness f (k ∷ ks) e = by (f k) refl e (witness f ks)
  where
    or_true : (b : Bool) → (b || true) ≡ true
    or_true true = refl
    or_true false = refl

    itself : is_at (front_cmp k) k ≡ true
    itself = rw (tied_itself nat_cmp_total k.0, tied_itself path_cmp_total k.1) refl

    by : (b : Bool) → f k ≡ b → (b || list_any f ks) ≡ true →
        (list_any f ks ≡ true → (j : ℕ × PathValue) × (f j ≡ true)
        × (list_any (is_at (front_cmp j)) ks ≡ true)) → (j : ℕ × PathValue) × (f j ≡ true)
        × (list_any (is_at (front_cmp j)) (k ∷ ks) ≡ true)
    by true q e more = (k, q, rw itself refl)
    by false q e more = let w = more e in (w.0, w.1, rw w.2 (or_true (is_at (front_cmp w.0) k)))

-- a path has a pair that is due where its queue has a front that is
pub due_pairs : (due : Due) (fs : Fronts) (queues : Queues) → IsIndexed fs queues → (p : PathValue) →
    list_any (is_due_pair due p) fs.keys ≡ is_due_front due (queue_at queues p)
due_pairs due fs queues i p = by (is_due_front due (queue_at queues p)) refl
  where
    there : (o : Option (List Timed)) → queue_at queues p ≡ o → is_due_front due o ≡ true →
        list_any (is_due_pair due p) fs.keys ≡ true
    there None e d = absurd (true≢false (sym d))
    there (Some []) e d = absurd (true≢false (sym d))
    there (Some (x ∷ xs)) e d =
        let has_it : has fs x.time p ≡ true = i.exact x.time p ∙ rw e (same_number x.time) in
        any_more (is_at (front_cmp (x.time, p))) (is_due_pair due p) passes fs.keys has_it
      where
        passes : (k : ℕ × PathValue) → is_at (front_cmp (x.time, p)) k ≡ true → is_due_pair due p k ≡ true
        passes k h =
            let both = and_both (x.time == k.0) (is_at (path_cmp p) k.1) (sym (same_front x.time k.0 p k.1)
            ∙ h) in
            let same : x.time ≡ k.0 = number_is x.time k.0 both.0 in
            let due_k : is_due_at due k.0 ≡ true = ap (is_due_at due) (sym same) ∙ sym (due_time due x) ∙ d in
            rw (due_k, both.1) refl

    gone : is_due_front due (queue_at queues p) ≡ false → (b : Bool) → list_any (is_due_pair due p) fs.keys
        ≡ b → b ≡ false
    gone n false e = refl
    gone n true e =
        let w = witness (is_due_pair due p) fs.keys e in
        let both = and_both (is_due_at due w.0.0) (is_at (path_cmp p) w.0.1) w.1 in
        let same : p ≡ w.0.1 = tied_path p w.0.1 both.1 in
        let front : is_time (front_of (queue_at queues p)) w.0.0 ≡ true =
        ap (λ z. is_time (front_of (queue_at queues z)) w.0.0) same ∙ sym (i.exact w.0.0 w.0.1) ∙ w.2 in
        absurd (true≢false (sym (due_queue due (queue_at queues p) w.0.0 front both.0) ∙ n))

    by : (b : Bool) → is_due_front due (queue_at queues p) ≡ b → list_any (is_due_pair due p) fs.keys
        ≡ is_due_front due (queue_at queues p)
    by true d = there (queue_at queues p) refl d ∙ sym d
    by false d = gone d (list_any (is_due_pair due p) fs.keys) refl ∙ sym d

-- behind a pair that is not due none is

-- the last of these keys keeps a law that all of them keep
last_keeps : {K : Type 0} (P : K → Type 0) (ks : List K) (k : K) → AllByRecursion P (ks ++ k ∷ []) → P k
last_keeps P [] k a = a.0
last_keeps P (j ∷ ks) k a = last_keeps P ks k a.1

-- the others do
others_keep : {K : Type 0} (P : K → Type 0) (ks : List K) (k : K) → AllByRecursion P (ks ++ k ∷ []) →
    AllByRecursion P ks
others_keep P [] k a = tt
others_keep P (j ∷ ks) k a = (a.0, others_keep P ks k a.1)

-- fronts without the oldest are in order
pub sorted_newer : (k : ℕ × PathValue) (ks : List (ℕ × PathValue)) →
    IsStrictlySortedBy front_cmp (ks ++ k ∷ []) → IsStrictlySortedBy front_cmp ks
unfolding IsStrictlySortedBy
sorted_newer k [] s = tt
sorted_newer k (j ∷ ks) s = (others_keep (λ y. front_cmp j y ≡ Less) ks k s.0, sorted_newer k ks s.1)

-- if the oldest of these fronts is not due, none is
pub end_quiet : (due : Due) (g : ℕ × PathValue → Bool) (k : ℕ × PathValue) (ks : List (ℕ × PathValue)) →
    is_due_at due k.0 ≡ false → IsStrictlySortedBy front_cmp (ks ++ k ∷ []) →
    list_any (λ j. is_due_at due j.0 && g j) (ks ++ k ∷ []) ≡ false
unfolding IsStrictlySortedBy
end_quiet due g k [] n s = rw n refl
end_quiet due g k (j ∷ ks) n s =
    let before : front_cmp j k ≡ Less = last_keeps (λ y. front_cmp j y ≡ Less) ks k s.0 in
    let no : is_due_at due j.0 ≡ false =
    due_later due k.0 j.0 (no_later k j (ap is_lt (front_cmp_total.antisymm k j ∙ ap ordering_reverse before))) n in
    rw no (end_quiet due g k ks n s.1)

-- above all keys there is none
pub above_all : (p : PathValue) (es : Queues) → AllByRecursion (λ y. path_cmp p y ≡ Less) (keys_of es) →
    queue_at es p ≡ None
above_all p [] a = refl
above_all p (e ∷ es) a = rw a.0 (above_all p es a.1)

-- the front of what is left at a path
pub front_left : (due : Due) (m : Queues) (p : PathValue) → IsStrictlySortedBy path_cmp (keys_of m) →
    front_of (queue_at (rests (is_due due) m) p) ≡ front_after due (queue_at m p)
unfolding IsStrictlySortedBy
front_left due [] p s = refl
front_left due (e ∷ es) p s =
    by (path_cmp p e.0) refl (waits (rest_after (is_due due) e.1)) refl (front_left due es p s.1)
  where
    by : (o : Ordering) → path_cmp p e.0 ≡ o → (b : Bool) → waits (rest_after (is_due due) e.1) ≡ b →
        front_of (queue_at (rests (is_due due) es) p) ≡ front_after due (queue_at es p) →
        front_of (queue_at (cond b ((e.0, rest_after (is_due due) e.1) ∷ rests (is_due due) es)
        (rests (is_due due) es)) p) ≡ front_after due (cond (is_eq o) (Some e.1) (queue_at es p))
    by Less q true w more = rw q more
    by Less q false w more = more
    by Greater q true w more = rw q more
    by Greater q false w more = more
    by Equal q true w more = rw q refl
    by Equal q false w more =
        let same : p ≡ e.0 = tied_path p e.0 (rw q refl) in
        let none : queue_at es p ≡ None = rw same (above_all e.0 es s.0) in
        more ∙ ap (front_after due) none ∙ sym (waits_front (rest_after (is_due due) e.1) w)

-- the index with the later pairs, at a time that is not due
pub covered_later : (due : Due) (fs gs : Fronts) (m : Queues) → IsIndexed fs m →
    IsStrictlySortedBy path_cmp (keys_of m) → IsWithLater due m fs gs → (t : ℕ) (p : PathValue) →
    is_due_at due t ≡ false → has gs t p ≡ is_time (front_of (queue_at (rests (is_due due) m) p)) t
covered_later due fs gs m i s h t p n =
    h t p ∙ ap (λ b. (is_due_front due (queue_at m p) && is_time (front_after due (queue_at m p)) t)
    || b) (i.exact t p) ∙ by (queue_at m p) ∙ sym (ap (λ o. is_time o t) (front_left due m p s))
  where
    by : (o : Option (List Timed)) →
        ((is_due_front due o && is_time (front_after due o) t) || is_time (front_of o) t)
        ≡ is_time (front_after due o) t
    by None = refl
    by (Some []) = refl
    by (Some (x ∷ xs)) = at (is_due due x) refl
      where
        or_false : (b : Bool) → (b || false) ≡ b
        or_false true = refl
        or_false false = refl

        at : (b : Bool) → is_due due x ≡ b →
            ((b && is_time (front_time (cond b (rest_after (is_due due) xs) (x ∷ xs))) t) || (x.time == t))
            ≡ is_time (front_time (cond b (rest_after (is_due due) xs) (x ∷ xs))) t
        at false d = refl
        at true d = ap (λ b. is_time (front_time (rest_after (is_due due) xs)) t
            || b) (apart (x.time == t) refl) ∙ or_false (is_time (front_time (rest_after (is_due due) xs)) t)
          where
            apart : (b : Bool) → (x.time == t) ≡ b → b ≡ false
            apart false e = refl
            apart true e =
                absurd (true≢false (sym d ∙ due_time due x ∙ ap (is_due_at due) (number_is x.time t e) ∙ n))

-- what a look-up finds where a value is set
pub set_found : (m : Queues) (path : PathValue) (q w : List Timed) → IsStrictlySortedBy path_cmp (keys_of m) →
    queue_at m path ≡ Some q → (p : PathValue) → queue_at (set_value (is_at (path_cmp path)) m w) p
    ≡ cond (is_at (path_cmp path) p) (Some w) (queue_at m p)
set_found m path q w s h p = ap (λ z. queue_at z p) (sym (insert_over path_cmp_total m path q w s h))
    ∙ queue_at-with m path w p

-- .. where one is taken out
remove_found : (m : Queues) (path : PathValue) → IsStrictlySortedBy path_cmp (keys_of m) → (p : PathValue) →
    queue_at (remove_entry (is_at (path_cmp path)) m) p ≡ cond (is_at (path_cmp path) p) None (queue_at m p)
remove_found m path s p = by (path_cmp path p) refl
  where
    by : (o : Ordering) → path_cmp path p ≡ o → queue_at (remove_entry (is_at (path_cmp path)) m) p
        ≡ cond (is_eq o) None (queue_at m p)
    by Less q = lookup-remove_other path_cmp_total m path p (ap is_eq (path_cmp_total.antisymm p path
        ∙ ap ordering_reverse q))
    by Greater q =
        lookup-remove_other path_cmp_total m path p (ap is_eq (path_cmp_total.antisymm p path
        ∙ ap ordering_reverse q))
    by Equal q =
        ap (λ z. queue_at (remove_entry (is_at (path_cmp path)) m) z) (sym (tied_path path p (rw q refl)))
        ∙ lookup-remove_same path_cmp_total m path s

-- a queue is cut to what is left
pub trim_set : (due : Due) (m n : Queues) (path : PathValue) (q : List Timed) →
    IsStrictlySortedBy path_cmp (keys_of m) → queue_at m path ≡ Some q →
    n ≡ set_value (is_at (path_cmp path)) m (rest_after (is_due due) q) → (p : PathValue) →
    is_due_front due (queue_at n p) ≡ cond (is_at (path_cmp path) p) false (is_due_front due (queue_at m p))
trim_set due m n path q s h e p = ap (λ z. is_due_front due (queue_at z p)) e
    ∙ ap (is_due_front due) (set_found m path q (rest_after (is_due due) q) s h p)
    ∙ by (is_at (path_cmp path) p)
  where
    by : (b : Bool) → is_due_front due (cond b (Some (rest_after (is_due due) q)) (queue_at m p))
        ≡ cond b false (is_due_front due (queue_at m p))
    by true = rest_quiet (is_due due) q
    by false = refl

-- a queue goes
pub trim_gone : (due : Due) (m n : Queues) (path : PathValue) → IsStrictlySortedBy path_cmp (keys_of m) →
    n ≡ remove_entry (is_at (path_cmp path)) m → (p : PathValue) → is_due_front due (queue_at n p)
    ≡ cond (is_at (path_cmp path) p) false (is_due_front due (queue_at m p))
trim_gone due m n path s e p = ap (λ z. is_due_front due (queue_at z p)) e
    ∙ ap (is_due_front due) (remove_found m path s p) ∙ by (is_at (path_cmp path) p)
  where
    by : (b : Bool) → is_due_front due (cond b None (queue_at m p))
        ≡ cond b false (is_due_front due (queue_at m p))
    by true = refl
    by false = refl

-- the others stay
pub others_stay : (m n : Queues) (path : PathValue) → IsStrictlySortedBy path_cmp (keys_of m) →
    n ≡ remove_entry (is_at (path_cmp path)) m → (p : PathValue) → is_at (path_cmp path) p ≡ false →
    queue_at n p ≡ queue_at m p
others_stay m n path s e p apart = ap (λ z. queue_at z p) e ∙ remove_found m path s p ∙ rw apart refl

-- a beginning of which the rest passes no test
pub or_quiet : (x y z : Bool) → (x || y) ≡ z → y ≡ false → x ≡ z
or_quiet true y z h n = h
or_quiet false y z h n = sym n ∙ h

-- one more test
pub or_step : (x a y z : Bool) → (x || (a || y)) ≡ z → ((x || a) || y) ≡ z
or_step true a y z h = h
or_step false a y z h = h

-- the oldest pair is not due, so none is
pub least_quiet : (due : Due) (fs : Fronts) (k : ℕ × PathValue) →
    ((q : ℕ × PathValue) → contains front_cmp fs q ≡ true → is_lt (front_cmp k q) ≡ false) →
    is_due_at due k.0 ≡ false → (t : ℕ) (p : PathValue) → is_due_at due t ≡ true → has fs t p ≡ false
least_quiet due fs k least n t p d = by (has fs t p) refl
  where
    by : (b : Bool) → has fs t p ≡ b → b ≡ false
    by false e = refl
    by true e = absurd (true≢false (sym d ∙ due_later due k.0 t (no_later k (t, p) (least (t, p) e)) n))

-- whether some queue is due, by the index
pub index_tells : (due : Due) (fs : Fronts) (queues : Queues) (b : Bool) → IsIndexed fs queues →
    IsStrictlySortedBy path_cmp (keys_of queues) →
    (b ≡ false → (t : ℕ) (p : PathValue) → is_due_at due t ≡ true → has fs t p ≡ false) →
    (b ≡ true → (k : ℕ × PathValue) × (is_due_at due k.0 ≡ true) × (has fs k.0 k.1 ≡ true)) →
    b ≡ is_any_due (is_due due) queues
index_tells due fs queues false i s none some =
    sym (none_due due queues queues (all_found path_cmp_total queues s)
    (quiet_index due fs queues (λ t p d. i.exact t p) (none refl)))
index_tells due fs queues true i s none some = let k = some refl in
    at k.0 k.1 (sym (i.exact k.0.0 k.0.1) ∙ k.2) (queue_at queues k.0.1) refl
  where
    at : (k : ℕ × PathValue) → is_due_at due k.0 ≡ true → is_time (front_of (queue_at queues k.1)) k.0 ≡ true →
        (o : Option (List Timed)) → queue_at queues k.1 ≡ o → true ≡ is_any_due (is_due due) queues
    at k d h None e = absurd (true≢false (sym (rw e at h)))
    at k d h (Some q) e =
        sym (one_due due queues (is_at (path_cmp k.1)) q e (due_queue due (Some q) k.0 (rw e at h) d))

-- the same pair, seen from either
pub flip_front : (k j : ℕ × PathValue) → is_at (front_cmp k) j ≡ is_at (front_cmp j) k
flip_front k j = ap is_eq (front_cmp_total.antisymm k j) ∙ back (front_cmp j k)
  where
    back : (o : Ordering) → is_eq (ordering_reverse o) ≡ is_eq o
    back Less = refl
    back Equal = refl
    back Greater = refl

-- one more pair in the index
pub add_step : (first fs gs : Fronts) (so_far : List (ℕ × PathValue)) (k : ℕ × PathValue) →
    ((t : ℕ) (p : PathValue) → has fs t p ≡ (list_any (is_at (front_cmp (t, p))) so_far || has first t p)) →
    ((q : ℕ × PathValue) → contains front_cmp gs q
    ≡ cond (is_at (front_cmp k) q) true (contains front_cmp fs q)) → (t : ℕ) (p : PathValue) →
    has gs t p ≡ (list_any (is_at (front_cmp (t, p))) (so_far ++ k ∷ []) || has first t p)
add_step first fs gs so_far k i h t p =
    h (t, p)
    ∙ ap (λ b. cond b true (has fs t p)) (flip_front k (t, p))
    ∙ ap (λ b. cond (is_at (front_cmp (t, p)) k) true b) (i t p)
    ∙ by (is_at (front_cmp (t, p)) k) (list_any (is_at (front_cmp (t, p))) so_far) (has first t p)
    ∙ ap (λ b. b || has first t p) (sym (list_any-append (is_at (front_cmp (t, p))) so_far (k ∷ [])))
  where
    by : (a b c : Bool) → cond a true (b || c) ≡ ((b || (a || false)) || c)
    by true true c = refl
    by true false c = refl
    by false true c = refl
    by false false c = refl

-- what was there is there
pub or_right : (a b : Bool) → b ≡ true → (a || b) ≡ true
or_right true b h = refl
or_right false b h = h

-- one more pair that is due
pub later_step : (a a' d b y z : Bool) → d ≡ true → a' ≡ (a || b) → (a || (y || ((d && b) || false))) ≡ z →
    (a' || y) ≡ z
later_step a a' d b y z e is h = rw is (by a b y (rw e at h))
  where
    by : (a b y : Bool) → (a || (y || (b || false))) ≡ z → ((a || b) || y) ≡ z
    by true b y h = h
    by false true true h = h
    by false true false h = h
    by false false true h = h
    by false false false h = h
