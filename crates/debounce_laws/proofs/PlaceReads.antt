-- What a place list creates and clears at a path, by what is due in each queue.
use Rattle.std.proofs.Common.{◌≡◌, Bool, true, false, ◌&&◌, ◌||◌, ⊎_elim, List, [], ◌∷◌, refl, sym, ap, subst, ◌∙◌, true≢false, is_eq}
use Rattle.std.specs.Map.{keys_of}
use Rattle.std.specs.List.{AllByRecursion, list_any}
use Rattle.std.specs.List.Sorted.{IsStrictlySortedBy}
use Rattle.std.proofs.lemmas.Bool.{cond_both, or_left, or_right, or_cases, false_from_ne_true, both_ways}
use Rattle.std.proofs.lemmas.List.Folds.{list_any-append}
use Rattle.notify_types.specs.Event.{Timed}
use Rattle.notify_types.specs.KindNumbers.{kind_eq, kind_eq_decides}
use Rattle.notify_types.specs.Kinds.{is_creation, is_removal}
use Rattle.notify_paths.specs.Path.{PathValue, path_cmp, path_eq, is_prefix}
use Rattle.notify_paths.specs.PathLaws.{path_eq_decides, path_matches_eq}
use Rattle.debounce_model.specs.Due.{expired_beginning, last_of_kind, place_list}
use Rattle.debounce_model.specs.Kept.{has_first}
use Rattle.debounce_model.specs.Queues.{Queues, events_at}
use Rattle.debounce_laws.proofs.DueLists.{FirstOnly, each_early, none_first_only}
use Rattle.debounce_laws.proofs.ToldQueues.{tells}
use Rattle.debounce_laws.proofs.PathSets.{prefix_of, below_prefix, tied}
use Rattle.debounce_laws.proofs.PathTests.{AtOrBelow, covered, covered_from, covered_at, covered_same, covered_or}
use Rattle.debounce_laws.proofs.PlayAt.{creates_at, clears_at}
use Rattle.debounce_laws.proofs.QueueKept.{AllWaiting}
use Rattle.debounce_laws.proofs.QueueReads.{none_behind, sorted_behind}

-- a creation
abbrev pub makes : Timed → Bool
makes x = is_creation x.event.kind

-- a removal
abbrev pub clears : Timed → Bool
clears x = is_removal x.event.kind

-- an event names just this path, and tells something
abbrev pub IsOwn : PathValue → Timed → Type 0
IsOwn p x = (x.event.paths ≡ p ∷ []) × (tells x.event.kind ≡ true)

-- either of two tests, where the first implies the second
or_given : (a b : Bool) → (a ≡ true → b ≡ true) → b ≡ (a || b)
or_given true b h = h refl
or_given false b h = refl

-- a test of kinds
abbrev IsKindTest : (Timed → Bool) → Type 0
IsKindTest f = (x y : Timed) → kind_eq x.event.kind y.event.kind ≡ true → f x ≡ f y

-- where an event passes a test of kinds, one of its kind does
kind_mate : (f : Timed → Bool) → IsKindTest f → (x : Timed) (xs : List Timed) →
    list_any (λ y. kind_eq x.event.kind y.event.kind) xs ≡ true → f x ≡ true → list_any f xs ≡ true
kind_mate f agree x [] h e = absurd (true≢false (sym h))
kind_mate f agree x (y ∷ ys) h e =
    ⊎_elim (λ s. or_left _ _ (sym (agree x y s) ∙ e)) (λ k. or_right _ _ (kind_mate f agree x ys k e))
    (or_cases _ _ h)

-- among the last of each kind as many kinds are found as among all
any_last : (f : Timed → Bool) → IsKindTest f → (xs : List Timed) → list_any f (last_of_kind xs) ≡ list_any f xs
any_last f agree [] = refl
any_last f agree (x ∷ xs) =
    let ih = any_last f agree xs in
    cond_both (list_any (λ y. kind_eq x.event.kind y.event.kind) xs) (last_of_kind xs) (x ∷ last_of_kind xs)
    (λ l. list_any f l ≡ (f x || list_any f xs))
    (λ mate. ih ∙ or_given (f x) (list_any f xs) (kind_mate f agree x xs mate)) (λ _. ap (λ z. f x || z) ih)

-- to be a creation is a test of kinds
makes_agree : IsKindTest makes
makes_agree x y h = ap is_creation ((kind_eq_decides x.event.kind y.event.kind).0 h)

-- .. and to be a removal
clears_agree : IsKindTest clears
clears_agree x y h = ap is_removal ((kind_eq_decides x.event.kind y.event.kind).0 h)

-- what holds of each holds of the last of each kind
pub each_last : (P : Timed → Type 0) (xs : List Timed) → AllByRecursion P xs →
    AllByRecursion P (last_of_kind xs)
each_last P [] h = tt
each_last P (x ∷ xs) h = cond_both (list_any (λ y. kind_eq x.event.kind y.event.kind) xs) (last_of_kind xs)
    (x ∷ last_of_kind xs) (AllByRecursion P) (λ _. each_last P xs h.1) (λ _. (h.0, each_last P xs h.1))

-- among the last of each kind a removal stands first
pub first_only_last : (xs : List Timed) → FirstOnly clears xs → FirstOnly clears (last_of_kind xs)
first_only_last [] h = tt
first_only_last (x ∷ xs) h =
    let none : list_any clears (last_of_kind xs) ≡ false = any_last clears clears_agree xs ∙ h in
    cond_both (list_any (λ y. kind_eq x.event.kind y.event.kind) xs) (last_of_kind xs) (x ∷ last_of_kind xs)
    (FirstOnly clears) (λ _. none_first_only clears (last_of_kind xs) none) (λ _. none)

-- a condition that two tests share
and_shared : (a b g : Bool) → ((a && g) || (b && g)) ≡ ((a || b) && g)
and_shared true true true = refl
and_shared true true false = refl
and_shared true false true = refl
and_shared true false false = refl
and_shared false b g = refl

-- a test that is another one under a condition
any_under : (f h : Timed → Bool) (g : Bool) (xs : List Timed) → AllByRecursion (λ x. f x ≡ (h x && g)) xs →
    list_any f xs ≡ (list_any h xs && g)
any_under f h g [] a = refl
any_under f h g (x ∷ xs) a = (λ i. a.0 i || any_under f h g xs a.1 i) ∙ and_shared (h x) (list_any h xs) g

-- each event of a queue creates just its path
own_creates : (p k : PathValue) (xs : List Timed) → AllByRecursion (IsOwn k) xs →
    AllByRecursion (λ x. creates_at p x.event ≡ (makes x && path_eq p k)) xs
own_creates p k [] a = tt
own_creates p k (x ∷ xs) a = (
  ap (λ ps. is_creation x.event.kind && has_first (λ q. path_eq p q) ps) a.0.0,
  own_creates p k xs a.1,
)

-- .. and clears what is at or below its path
own_clears : (p k : PathValue) (xs : List Timed) → AllByRecursion (IsOwn k) xs →
    AllByRecursion (λ x. clears_at p x.event ≡ (clears x && is_prefix k p)) xs
own_clears p k [] a = tt
own_clears p k (x ∷ xs) a = (
  ap (λ ps. is_removal x.event.kind && has_first (λ q. is_prefix q p) ps) a.0.0,
  own_clears p k xs a.1,
)

module _ (due : Timed → Bool) where
  -- what goes out of a queue
  abbrev pub out : List Timed → List Timed
  out xs = last_of_kind (expired_beginning due xs)

  -- .. is its own
  pub own_out : (k : PathValue) (xs : List Timed) → AllByRecursion (IsOwn k) xs →
      AllByRecursion (IsOwn k) (out xs)
  own_out k xs a = each_last (IsOwn k) (expired_beginning due xs) (each_early due (IsOwn k) xs a)

  -- what goes out of a queue and creates a path
  block_creates : (p k : PathValue) (xs : List Timed) → AllByRecursion (IsOwn k) xs →
      list_any (λ x. creates_at p x.event) (out xs) ≡ (list_any makes (expired_beginning due xs) && path_eq p k)
  block_creates p k xs a =
      any_under (λ x. creates_at p x.event) makes (path_eq p k) (out xs)
      (own_creates p k (out xs) (own_out k xs a))
      ∙ ap (λ b. b && path_eq p k) (any_last makes makes_agree (expired_beginning due xs))

  -- what goes out of a queue and clears a path
  block_clears : (p k : PathValue) (xs : List Timed) → AllByRecursion (IsOwn k) xs →
      list_any (λ x. clears_at p x.event) (out xs)
      ≡ (list_any clears (expired_beginning due xs) && is_prefix k p)
  block_clears p k xs a =
      any_under (λ x. clears_at p x.event) clears (is_prefix k p) (out xs)
      (own_clears p k (out xs) (own_out k xs a))
      ∙ ap (λ b. b && is_prefix k p) (any_last clears clears_agree (expired_beginning due xs))

  -- what passes a test of what is due at a path, by the first entry
  due_by_entry : (f : Timed → Bool) (e : PathValue × List Timed) (queues : Queues) (q : PathValue) →
      IsStrictlySortedBy path_cmp (keys_of (e ∷ queues)) →
      list_any f (expired_beginning due (events_at (e ∷ queues) q))
      ≡ ((list_any f (expired_beginning due e.1) && path_eq q e.0)
      || list_any f (expired_beginning due (events_at queues q)))
  due_by_entry f e queues q s = by (is_eq (path_cmp q e.0)) refl
    where
      here : (b : Bool) → b ≡ ((b && true) || false)
      here true = refl
      here false = refl

      there : (b c : Bool) → c ≡ ((b && false) || c)
      there true c = refl
      there false c = refl

      by : (b : Bool) → is_eq (path_cmp q e.0) ≡ b →
          list_any f (expired_beginning due (events_at (e ∷ queues) q))
          ≡ ((list_any f (expired_beginning due e.1) && path_eq q e.0)
          || list_any f (expired_beginning due (events_at queues q)))
      by true i =
          let none : events_at queues q ≡ [] = ap (events_at queues) (tied q e.0 i) ∙ none_behind e queues s in
          rw (path_matches_eq q e.0, i, none) (here (list_any f (expired_beginning due e.1)))
      by false i = rw (path_matches_eq q e.0, i) (there (list_any f (expired_beginning due e.1)) _)

  -- what goes out creates a path where a creation is due there
  pub places_create : (queues : Queues) (p : PathValue) → IsStrictlySortedBy path_cmp (keys_of queues) →
      AllWaiting IsOwn queues → list_any (λ x. creates_at p x.event) (place_list due queues)
      ≡ list_any makes (expired_beginning due (events_at queues p))
  places_create [] p s a = refl
  places_create (e ∷ queues) p s a =
      list_any-append (λ x. creates_at p x.event) (out e.1) (place_list due queues)
      ∙ (λ i. block_creates p e.0 e.1 a.0 i || places_create queues p (sorted_behind e queues s) a.1 i)
      ∙ sym (due_by_entry makes e queues p s)

  -- one path with a removal covers what is at or below it
  covered_by_one : (k p : PathValue) (r : Bool) → covered (λ q. r && path_eq q k) p ≡ (r && is_prefix k p)
  covered_by_one k p false = false_from_ne_true _ (λ c. true≢false (sym (covered_at (λ q. false) p c).2))
  covered_by_one k p true = by (is_prefix k p) refl
    where
      by : (b : Bool) → is_prefix k p ≡ b → covered (λ q. path_eq q k) p ≡ b
      by true e = covered_from (λ q. path_eq q k) k p (below_prefix k p e) ((path_eq_decides k k).1 refl)
      by false e = false_from_ne_true _ (λ c. let f = covered_at (λ q. path_eq q k) p c in
          both_ways (is_prefix k p) e
          (prefix_of k p (subst (λ z. AtOrBelow z p) ((path_eq_decides f.0 k).0 f.2) f.1)))

  -- what goes out clears a path where a removal is due at or above it
  pub places_clear : (queues : Queues) (p : PathValue) → IsStrictlySortedBy path_cmp (keys_of queues) →
      AllWaiting IsOwn queues → list_any (λ x. clears_at p x.event) (place_list due queues)
      ≡ covered (λ q. list_any clears (expired_beginning due (events_at queues q))) p
  places_clear [] p s a = sym (covered_by_one [] p false)
  places_clear (e ∷ queues) p s a =
      list_any-append (λ x. clears_at p x.event) (out e.1) (place_list due queues)
      ∙ (λ i. (block_clears p e.0 e.1 a.0
      ∙ sym (covered_by_one e.0 p (list_any clears (expired_beginning due e.1)))) i
      || places_clear queues p (sorted_behind e queues s) a.1 i)
      ∙ sym (covered_or (λ q. list_any clears (expired_beginning due e.1)
      && path_eq q e.0) (λ q. list_any clears (expired_beginning due (events_at queues q))) p)
      ∙ sym (covered_same (λ q. list_any clears (expired_beginning due (events_at (e ∷ queues) q))) _
      p (λ q b. due_by_entry clears e queues q s))
