-- What is done for each path that events name first, event by event. `looks` and `mirror` cite these.
use Rattle.std.proofs.Common.{◌≡◌, ◌∙◌, Bool, true, false, not, ◌&&◌, ◌||◌, inl, inr, List, [], ◌∷◌, ◌++◌, append-nil, Option, None, Some, refl, sym, ap, subst, true≢false, slice_get, ℕ, ◌<◌, ◌+◌, length, get_or, drop}
use Rattle.std.specs.Prelude.{◌⊎◌, IfSome, map, if◌then◌else◌}
use Rattle.notify_paths.specs.Path.{PathValue, path_eq, is_prefix}
use Rattle.notify_paths.specs.PathLaws.{path_eq_decides}
use Rattle.notify_types.specs.Event.{EventValue, Timed}
use Rattle.notify_types.specs.Kinds.{is_removal}
use Rattle.debounce_model.proofs.Lists.{drop_at}
use Rattle.debounce_model.specs.Kept.{has_first}
use Rattle.debounce_model.specs.Play.{Paths, events_of, has_path, with_path, without_at}
use Rattle.debounce_laws.proofs.PathSets.{has_with, has_without, prefix_of}
use Rattle.reader_paths.specs.Plan.{is_named, wanted, wanted_first, wanted_from}

-- of the paths that all the events name, each is done, or the rest names it
abbrev pub LeftToDo : (PathValue → Type 0) → List EventValue → List EventValue → Type 0
LeftToDo done all rest = (p : PathValue) → is_named all p ≡ true → done p ⊎ (is_named rest p ≡ true)

-- at first nothing is done
pub left_init : (done : PathValue → Type 0) (all : List EventValue) → LeftToDo done all all
left_init done all = λ p h. inr h

-- at the end all is
pub left_done : (done : PathValue → Type 0) (all : List EventValue) → LeftToDo done all [] → (p : PathValue) →
    is_named all p ≡ true → done p
left_done done all left p h = by (left p h)
  where
    by : done p ⊎ (false ≡ true) → done p
    by (inl d) = d
    by (inr n) = absurd (true≢false (sym n))

-- one event
pub left_step : (done done' : PathValue → Type 0) (all : List EventValue) (e : EventValue) (rest : List EventValue) →
    ((p : PathValue) → done p → done' p) → ((q : PathValue) → slice_get e.paths 0 ≡ Some q → done' q) →
    LeftToDo done all (e ∷ rest) → LeftToDo done' all rest
left_step done done' all e rest grows now left = λ p h. by p (left p h)
  where
    of : (p : PathValue) (ps : List PathValue) → ((q : PathValue) → slice_get ps 0 ≡ Some q → done' q) →
        (has_first (λ q. path_eq p q) ps || is_named rest p) ≡ true → done' p ⊎ (is_named rest p ≡ true)
    of p [] here h = inr h
    of p (q ∷ ps) here h = at (path_eq p q) refl h
      where
        at : (b : Bool) → path_eq p q ≡ b → (b || is_named rest p) ≡ true → done' p ⊎ (is_named rest p ≡ true)
        at true e h = inl (subst done' (sym ((path_eq_decides p q).0 e)) (here q refl))
        at false e h = inr h

    by : (p : PathValue) → done p ⊎ (is_named (e ∷ rest) p ≡ true) → done' p ⊎ (is_named rest p ≡ true)
    by p (inl d) = inl (grows p d)
    by p (inr h) = of p e.paths now h

-- one event of a batch
pub left_next : (done done' : PathValue → Type 0) (batch : List Timed) (i : ℕ) (x : Timed) → i < length batch →
    x ≡ get_or batch i x → ((p : PathValue) → done p → done' p) →
    ((q : PathValue) → slice_get x.event.paths 0 ≡ Some q → done' q) →
    LeftToDo done (events_of batch) (events_of (drop i batch)) →
    LeftToDo done' (events_of batch) (events_of (drop (i + 1) batch))
left_next done done' batch i x h is grows now left =
    left_step done done' (events_of batch) x.event (events_of (drop (i + 1) batch)) grows now
    (subst (λ t. LeftToDo done (events_of batch) (events_of t)) (drop_at batch i x h is) left)

-- .. what holds of its first path, if it has one
pub of_first : (done : PathValue → Type 0) (paths : List PathValue) → IfSome (slice_get paths 0) done →
    (q : PathValue) → slice_get paths 0 ≡ Some q → done q
of_first done paths h q e = subst (λ o. IfSome o done) e h

-- ---- what is wanted of a path that the last events name

-- one event, from two sets that agree at the path
first_agrees : (s t : Paths) (e : EventValue) (p : PathValue) → has_path s p ≡ has_path t p →
    has_path (wanted_first s e.kind e.paths) p ≡ has_path (wanted_first t e.kind e.paths) p
first_agrees s t e p same = by e.paths
  where
    at : (q : PathValue) (removes : Bool) → has_path (if removes then without_at s q else with_path s q) p
        ≡ has_path (if removes then without_at t q else with_path t q) p
    at q true = has_without s q p ∙ ap (λ b. not (is_prefix q p) && b) same ∙ sym (has_without t q p)
    at q false = has_with s q p ∙ ap (λ b. path_eq p q || b) same ∙ sym (has_with t q p)

    by : (ps : List PathValue) → has_path (wanted_first s e.kind ps) p ≡ has_path (wanted_first t e.kind ps) p
    by [] = same
    by (q ∷ ps) = at q (is_removal e.kind)

-- events, from two sets that agree at the path
from_agrees : (es : List EventValue) (s t : Paths) (p : PathValue) → has_path s p ≡ has_path t p →
    has_path (wanted_from s es) p ≡ has_path (wanted_from t es) p
from_agrees [] s t p same = same
from_agrees (e ∷ es) s t p same = from_agrees es _ _ p (first_agrees s t e p same)

-- each path lies at itself
prefix_self : (path : PathValue) → is_prefix path path ≡ true
prefix_self path = prefix_of path path ([], sym (append-nil path))

-- what is wanted at a path that the events name doesn't depend on what was before
named_alone : (es : List EventValue) (s t : Paths) (p : PathValue) → is_named es p ≡ true →
    has_path (wanted_from s es) p ≡ has_path (wanted_from t es) p
named_alone [] s t p h = absurd (true≢false (sym h))
named_alone (e ∷ es) s t p h = by e.paths h (λ s t. named_alone es s t p)
  where
    gone : (b c : Bool) → b ≡ true → (not b && c) ≡ false
    gone true c e = refl
    gone false c e = absurd (true≢false (sym e))

    first : (b c : Bool) → b ≡ true → (b || c) ≡ true
    first true c e = refl
    first false c e = absurd (true≢false (sym e))

    here : (q : PathValue) (removes : Bool) → path_eq p q ≡ true →
        has_path (if removes then without_at s q else with_path s q) p
        ≡ has_path (if removes then without_at t q else with_path t q) p
    here q true n =
        let below : is_prefix q p ≡ true =
        subst (λ r. is_prefix q r ≡ true) (sym ((path_eq_decides p q).0 n)) (prefix_self q) in
        let one : has_path (without_at s q) p ≡ false = has_without s q p ∙ gone (is_prefix q p) _ below in
        let two : has_path (without_at t q) p ≡ false = has_without t q p ∙ gone (is_prefix q p) _ below in
        one ∙ sym two
    here q false n =
        let one : has_path (with_path s q) p ≡ true = has_with s q p ∙ first (path_eq p q) _ n in
        let two : has_path (with_path t q) p ≡ true = has_with t q p ∙ first (path_eq p q) _ n in
        one ∙ sym two

    at : (q : PathValue) (b : Bool) → path_eq p q ≡ b → (b || is_named es p) ≡ true →
        ((s t : Paths) → is_named es p ≡ true → has_path (wanted_from s es) p ≡ has_path (wanted_from t es) p) →
        has_path (wanted_from (if is_removal e.kind then without_at s q else with_path s q) es) p
        ≡ has_path (wanted_from (if is_removal e.kind then without_at t q else with_path t q) es) p
    at q true n h more = from_agrees es _ _ p (here q (is_removal e.kind) n)
    at q false n h more = more _ _ h

    by : (ps : List PathValue) → (has_first (λ q. path_eq p q) ps || is_named es p) ≡ true →
        ((s t : Paths) → is_named es p ≡ true → has_path (wanted_from s es) p ≡ has_path (wanted_from t es) p) →
        has_path (wanted_from (wanted_first s e.kind ps) es) p ≡ has_path (wanted_from (wanted_first t e.kind ps) es) p
    by [] h more = more s t h
    by (q ∷ ps) h more = at q (path_eq p q) refl h more

-- what all want of a path that the last of them name is what the last want
pub named_last : (first last : List EventValue) (p : PathValue) → is_named last p ≡ true →
    has_path (wanted (first ++ last)) p ≡ has_path (wanted last) p
named_last first last p h = by first []
  where
    by : (xs : List EventValue) (s : Paths) → has_path (wanted_from s (xs ++ last)) p ≡ has_path (wanted last) p
    by [] s = named_alone last s [] p h
    by (x ∷ xs) s = by xs (wanted_first s x.kind x.paths)

-- and all name it
pub named_among : (first last : List EventValue) (p : PathValue) → is_named last p ≡ true →
    is_named (first ++ last) p ≡ true
named_among [] last p h = h
named_among (x ∷ xs) last p h = or_right (has_first (λ q. path_eq p q) x.paths) (named_among xs last p h)
  where
    or_right : (a : Bool) {b : Bool} → b ≡ true → (a || b) ≡ true
    or_right true h = refl
    or_right false h = h

-- the events of two batches, one after the other
pub events_append : (xs ys : List Timed) → events_of (xs ++ ys) ≡ events_of xs ++ events_of ys
events_append [] ys = refl
events_append (x ∷ xs) ys = ap (λ es. x.event ∷ es) (events_append xs ys)

-- one of two, of which the first grows
pub or_grows : {P Q R : Type 0} → (P → Q) → P ⊎ R → Q ⊎ R
or_grows f (inl p) = inl (f p)
or_grows f (inr r) = inr r
