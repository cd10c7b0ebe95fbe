-- In a batch a removal stands before each creation at or below its path that is no earlier.
use Rattle.std.proofs.Common.{◌≡◌, ℕ, ◌+◌, ◌≤◌, ◌<◌, max, Bool, true, false, ◌⊎◌, inl, inr, ⊎_elim, List, [], ◌∷◌, ◌++◌, length, length-append, fold, arith, refl, sym, ap, subst, ◌∙◌, true≢false, Ordering, Less, Equal, Greater, is_eq, nat_cmp}
use Rattle.std.specs.Ordering.{ordering_then}
use Rattle.std.specs.List.{AllByRecursion}
use Rattle.std.proofs.lemmas.Cmp.{ranked, tied_itself}
use Rattle.notify_types.specs.Event.{Timed}
use Rattle.notify_types.specs.Kinds.{is_creation, is_removal}
use Rattle.notify_types.specs.declared.kind.EventKind.{EventKind}
use Rattle.notify_types.specs.declared.kind.EventKind.TheVariants as kinds
use Rattle.notify_paths.specs.Path.{PathValue, part_cmp, path_cmp}
use Rattle.notify_paths.specs.PathLaws.{part_cmp_total, path_cmp_total}
use Rattle.debounce_model.specs.Order.{Placed, placed_cmp, placed, last_path, raised_by}
use Rattle.debounce_model.proofs.OrderUnique.{Has, at_element}
use Rattle.debounce_laws.proofs.PathSets.{tied_to_itself}
use Rattle.debounce_laws.proofs.PathTests.{AtOrBelow}

-- two events have one last path
abbrev pub share_path : Timed → Timed → Bool
share_path x y = is_eq (path_cmp (last_path x) (last_path y))

-- a removal stands before all others of its path
abbrev pub RemovalsFirst : List Timed → List Timed → Type 0
RemovalsFirst seen [] = Unit {0}
RemovalsFirst seen (x ∷ xs) =
    (is_removal x.event.kind ≡ true → AllByRecursion (λ y. share_path x y ≡ false) seen)
    × RemovalsFirst (seen ++ x ∷ []) xs

-- it holds of each two elements, the first before the second
abbrev Pairs : {X : Type 0} → (X → X → Type 0) → List X → Type 0
Pairs R [] = Unit {0}
Pairs R (x ∷ xs) = AllByRecursion (R x) xs × Pairs R xs

-- of two elements of a list one is the other, or before it, or behind it
pairs_choose : {X : Type 0} (R : X → X → Type 0) (xs : List X) (x y : X) → Pairs R xs → Has xs x → Has xs y →
    (x ≡ y) ⊎ ((R x y) ⊎ (R y x))
pairs_choose R [] x y h i j = absurd i
pairs_choose R (z ∷ zs) x y h (inl e) (inl d) = inl (sym e ∙ d)
pairs_choose R (z ∷ zs) x y h (inl e) (inr d) = inr (inl (subst (λ w. R w y) e (at_element (R z) zs y h.0 d)))
pairs_choose R (z ∷ zs) x y h (inr e) (inl d) = inr (inr (subst (λ w. R w x) d (at_element (R z) zs x h.0 e)))
pairs_choose R (z ∷ zs) x y h (inr e) (inr d) = pairs_choose R zs x y h.1 e d

-- it is no less than the time begun with
fold_above : (x : Timed) (n : ℕ) (seen : List Timed) → n ≤ fold (raised_by x) n seen
fold_above x n [] = omega arith
fold_above x n (y ∷ seen) = let more = fold_above x (raised_by x n y) seen in by (share_path x y) refl more
  where
    by : (b : Bool) → share_path x y ≡ b → raised_by x n y ≤ fold (raised_by x) (raised_by x n y) seen →
        n ≤ fold (raised_by x) (raised_by x n y) seen
    by true e more = let is : raised_by x n y ≡ max n y.time = rw e refl in omega (arith, is, more)
    by false e more = let is : raised_by x n y ≡ n = rw e refl in omega (arith, is, more)

-- .. and that time, where none before has the event's path
fold_own : (x : Timed) (n : ℕ) (seen : List Timed) → AllByRecursion (λ y. share_path x y ≡ false) seen →
    fold (raised_by x) n seen ≡ n
fold_own x n [] h = refl
fold_own x n (y ∷ seen) h = rw h.0 (fold_own x n seen h.1)

-- no event is later than the greatest time so far
placed_high : (seen xs : List Timed) →
    AllByRecursion (λ (k : Placed). k.event.time ≤ k.greatest) (placed seen xs)
placed_high seen [] = tt
placed_high seen (x ∷ xs) = (fold_above x x.time seen, placed_high (seen ++ x ∷ []) xs)

-- a removal keeps its own time
placed_own : (seen xs : List Timed) → RemovalsFirst seen xs →
    AllByRecursion (λ (k : Placed). is_removal k.event.event.kind ≡ true → k.greatest ≡ k.event.time)
    (placed seen xs)
placed_own seen [] h = tt
placed_own seen (x ∷ xs) h = ((λ is. fold_own x x.time seen (h.0 is)), placed_own (seen ++ x ∷ []) xs h.1)

-- a list has what was put last
has_last : {X : Type 0} (xs : List X) (x : X) → Has (xs ++ x ∷ []) x
has_last [] x = inl refl
has_last (y ∷ xs) x = inr (has_last xs x)

-- .. and what it had
has_before : {X : Type 0} (xs : List X) (x y : X) → Has xs y → Has (xs ++ x ∷ []) y
has_before [] x y h = absurd h
has_before (z ∷ xs) x y (inl e) = inl e
has_before (z ∷ xs) x y (inr h) = inr (has_before xs x y h)

-- behind an event that was seen each place is later, and each removal is of another path
later_ones : (y : Timed) (m : ℕ) (seen xs : List Timed) → Has seen y → m < length seen → RemovalsFirst seen xs →
    AllByRecursion (λ (l : Placed). (m < l.place) × (is_removal l.event.event.kind ≡ true → share_path l.event y
    ≡ false)) (placed seen xs)
later_ones y m seen [] i less h = tt
later_ones y m seen (x ∷ xs) i less h =
    let long : length (seen ++ x ∷ []) ≡ length seen + 1 = length-append seen (x ∷ []) in (
      (less, λ is. at_element (λ z. share_path x z ≡ false) seen y (h.0 is) i),
      later_ones y m (seen ++ x ∷ []) xs (has_before seen x y i) (omega (arith, less, long)) h.1,
    )

-- of two events the place of the second is later, and where it is a removal its path is another
placed_pairs : (seen xs : List Timed) → RemovalsFirst seen xs →
    Pairs (λ (k l : Placed). (k.place < l.place) × (is_removal l.event.event.kind ≡ true →
    share_path l.event k.event ≡ false)) (placed seen xs)
placed_pairs seen [] h = tt
placed_pairs seen (x ∷ xs) h =
    let long : length (seen ++ x ∷ []) ≡ length seen + 1 = length-append seen (x ∷ []) in (
      later_ones x (length seen) (seen ++ x ∷ []) xs (has_last seen x) (omega (arith, long)) h.1,
      placed_pairs (seen ++ x ∷ []) xs h.1,
    )

-- a path stands in front of what is below it
prefix_first : (p s : PathValue) → (path_cmp p (p ++ s) ≡ Less) ⊎ (p ≡ p ++ s)
prefix_first [] [] = inr refl
prefix_first [] (a ∷ s) = inl refl
prefix_first (a ∷ p) s =
    let t : part_cmp a a ≡ Equal = tied_itself part_cmp_total a in
    ⊎_elim (λ l. inl (rw t l)) (λ e. inr (ap (λ z. a ∷ z) e)) (prefix_first p s)

-- no less, by the first comparison or by the second
no_less : (a b : ℕ) (o : Ordering) → a ≤ b → o ≡ Less → ordering_then (nat_cmp a b) o ≡ Less
no_less a b o up h = by (nat_cmp a b) refl
  where
    by : (r : Ordering) → nat_cmp a b ≡ r → ordering_then r o ≡ Less
    by Less e = refl
    by Equal e = h
    by Greater e = let over : b < a = ranked a b Greater (sym e) in absurd (omega (arith, over, up))

-- a smaller number compares as less
less_number : (a b : ℕ) → a < b → nat_cmp a b ≡ Less
less_number a b up = by (nat_cmp a b) refl
  where
    by : (r : Ordering) → nat_cmp a b ≡ r → r ≡ Less
    by Less e = refl
    by Equal e = let same : a ≡ b = ranked a b Equal (sym e) in absurd (omega (arith, same, up))
    by Greater e = let over : b < a = ranked a b Greater (sym e) in absurd (omega (arith, over, up))

-- a creation is no removal
pub not_removed : (k : EventKind) → is_creation k ≡ true → is_removal k ≡ true → ⊥
not_removed (kinds.Create k) c r = true≢false (sym r)
not_removed k c r = true≢false (sym c)

-- a removal at or above a creation, and no later than it, stands in front
pub removal_first : (xs : List Timed) → RemovalsFirst [] xs → (c r : Placed) → Has (placed [] xs) c →
    Has (placed [] xs) r → is_creation c.event.event.kind ≡ true → is_removal r.event.event.kind ≡ true →
    AtOrBelow (last_path r.event) (last_path c.event) → r.event.time ≤ c.event.time → placed_cmp r c ≡ Less
removal_first xs first c r ic ir is_c is_r below order =
    let own : r.greatest ≡ r.event.time = at_element (λ (k : Placed). is_removal k.event.event.kind ≡ true →
    k.greatest ≡ k.event.time) (placed [] xs) r (placed_own [] xs first) ir is_r in
    let high : c.event.time ≤ c.greatest =
    at_element (λ (k : Placed). k.event.time ≤ k.greatest) (placed [] xs) c (placed_high [] xs) ic in
    no_less r.greatest c.greatest (ordering_then (path_cmp (last_path r.event) (last_path c.event))
    (nat_cmp r.place c.place)) (omega (arith, own, high, order)) by_path
  where
    same_place : last_path r.event ≡ last_path c.event → nat_cmp r.place c.place ≡ Less
    same_place e =
        let alike : share_path r.event c.event ≡ true = ap (λ z. is_eq (path_cmp z (last_path c.event))) e
        ∙ tied_to_itself (last_path c.event) in
        ⊎_elim (λ s. absurd
        (not_removed c.event.event.kind is_c (subst (λ (k : Placed). is_removal k.event.event.kind ≡ true) s
        is_r)))
        (λ o. ⊎_elim (λ rc. less_number r.place c.place rc.0)
        (λ cr. absurd (true≢false (sym alike ∙ cr.1 is_r))) o)
        (pairs_choose _ (placed [] xs) r c (placed_pairs [] xs first) ir ic)

    by_path : ordering_then (path_cmp (last_path r.event) (last_path c.event)) (nat_cmp r.place c.place) ≡ Less
    by_path = ⊎_elim (λ l. let less : path_cmp (last_path r.event) (last_path c.event) ≡ Less =
        ap (path_cmp (last_path r.event)) below.1 ∙ l in rw less refl)
        (λ e. let same : last_path r.event ≡ last_path c.event = e ∙ sym below.1 in
        let tie : path_cmp (last_path r.event) (last_path c.event) ≡ Equal =
        ap (λ z. path_cmp z (last_path c.event)) same ∙ tied_itself path_cmp_total (last_path c.event) in
        rw tie (same_place same))
        (prefix_first (last_path r.event) below.0)
