-- The events decide: what was moved before they are played makes no difference. `read_moves` cites the last lemma.
use Rattle.std.proofs.Common.{◌≡◌, ℕ, Bool, true, false, cond, ◌&&◌, ◌||◌, ◌⊎◌, inl, inr, ⊎_elim, List, [], ◌∷◌, Option, None, Some, refl, sym, ap, ◌∙◌, true≢false, is_eq}
use Rattle.std.specs.Prelude.{is_some, option_to_list, slice_get, if◌then◌else◌}
use Rattle.std.specs.BTreeMap.{is_at}
use Rattle.std.specs.List.{list_all, list_any, AllByRecursion}
use Rattle.std.specs.List.Sorted.{IsStrictlySortedBy}
use Rattle.std.specs.Map.{keys_of, lookup}
use Rattle.std.specs.Option.{option_or}
use Rattle.std.specs.Ordering.{nat_cmp}
use Rattle.std.proofs.lemmas.Bool.{or_left, or_right, or_cases, false_from_ne_true}
use Rattle.std.proofs.lemmas.Cmp.{nat_cmp_total, tied_itself}
use Rattle.std.proofs.lemmas.List.Folds.{list_any-append}
use Rattle.std.proofs.lemmas.Map.Keys.{sorted_tail}
use Rattle.notify_paths.specs.Path.{PathValue, path_cmp, path_eq, is_prefix}
use Rattle.notify_paths.specs.PathLaws.{path_cmp_total, path_eq_equiv}
use Rattle.notify_types.specs.Event.{EventValue}
use Rattle.notify_types.specs.Kinds.{is_creation, is_removal}
use Rattle.debounce_model.specs.Kept.{has_first}
use Rattle.debounce_model.specs.Play.{Paths, has_path, play}
use Rattle.debounce_model.proofs.OrderUnique.{Has, same_from_within}
use Rattle.debounce_laws.proofs.PathSets.{tied, tied_to_itself}
use Rattle.debounce_laws.proofs.PlayAt.{creates_at, clears_at, play_here, sorted_play}
use Rattle.debounce_laws.proofs.Settling.{here}
use Rattle.reader_paths.specs.Moves.{AreMovesOf, LeavesPlayed, MoveValue, MovesValue, are_apart, has_tracker, is_new, is_old, move_of, move_with, path_with, paths_with, source_among, source_by}
use Rattle.reader_paths.proofs.MovesLemmas.ToldLemmas.{gone_after}

-- ---- what the events decide

-- the event decides whether the path is there
abbrev decides_at : PathValue → EventValue → Bool
decides_at p e = creates_at p e || clears_at p e

-- where an event decides, it makes no difference what was there before
decided_here : (p : PathValue) (a b : Bool) (es : List EventValue) → list_any (decides_at p) es ≡ true →
    here (creates_at p) (clears_at p) a es ≡ here (creates_at p) (clears_at p) b es
decided_here p a b [] h = absurd (true≢false (sym h))
decided_here p a b (e ∷ es) h = by (creates_at p e) (clears_at p e) h (decided_here p a b es)
  where
    by : (c r : Bool) → ((c || r) || list_any (decides_at p) es) ≡ true →
        (list_any (decides_at p) es ≡ true →
        here (creates_at p) (clears_at p) a es ≡ here (creates_at p) (clears_at p) b es) →
        here (creates_at p) (clears_at p) (cond c true (cond r false a)) es
        ≡ here (creates_at p) (clears_at p) (cond c true (cond r false b)) es
    by true r h more = refl
    by false true h more = refl
    by false false h more = more h

-- what is in a set is one of its elements
element_of : (s : Paths) (p : PathValue) → has_path s p ≡ true → Has s p
element_of [] p h = absurd (true≢false (sym h))
element_of (x ∷ s) p h =
    ⊎_elim (λ e. inl (sym (tied p x e))) (λ more. inr (element_of s p more))
    (or_cases (is_eq (path_cmp p x)) (has_path s p) h)

-- the elements of a set are in another that has what it has
elements_in : (a b : Paths) → ((p : PathValue) → has_path a p ≡ true → has_path b p ≡ true) → AllByRecursion (Has b) a
elements_in [] b h = tt
elements_in (x ∷ a) b h = (
  element_of b x (h x (or_left (is_eq (path_cmp x x)) _ (tied_to_itself x))),
  elements_in a b (λ p i. h p (or_right (is_eq (path_cmp p x)) _ i)),
)

-- sets that differ only where the events decide become one
decided : (es : List EventValue) (a b : Paths) → IsStrictlySortedBy path_cmp a → IsStrictlySortedBy path_cmp b →
    ((p : PathValue) → list_any (decides_at p) es ≡ false → has_path b p ≡ has_path a p) → play b es ≡ play a es
decided es a b s t h =
    same_from_within path_cmp_total (play b es) (play a es) (sorted_play b es t) (sorted_play a es s)
    (elements_in _ _ (λ p i. sym (same p) ∙ i)) (elements_in _ _ (λ p i. same p ∙ i))
  where
    by : (p : PathValue) (d : Bool) → list_any (decides_at p) es ≡ d →
        here (creates_at p) (clears_at p) (has_path b p) es ≡ here (creates_at p) (clears_at p) (has_path a p) es
    by p true d = decided_here p (has_path b p) (has_path a p) es d
    by p false d = ap (λ x. here (creates_at p) (clears_at p) x es) (h p d)

    same : (p : PathValue) → has_path (play b es) p ≡ has_path (play a es) p
    same p = play_here b p es ∙ by p (list_any (decides_at p) es) refl ∙ sym (play_here a p es)

-- ---- what moves is decided

-- events that decide by a first test do by either
any_left : (p : PathValue) (es : List EventValue) → list_any (creates_at p) es ≡ true →
    list_any (decides_at p) es ≡ true
any_left p [] h = h
any_left p (e ∷ es) h =
    ⊎_elim (λ now. or_left (decides_at p e) _ (or_left (creates_at p e) _ now))
    (λ later. or_right (decides_at p e) _ (any_left p es later))
    (or_cases (creates_at p e) (list_any (creates_at p) es) h)

-- .. by the second
any_right : (p : PathValue) (es : List EventValue) → list_any (clears_at p) es ≡ true →
    list_any (decides_at p) es ≡ true
any_right p [] h = h
any_right p (e ∷ es) h =
    ⊎_elim (λ now. or_left (decides_at p e) _ (or_right (creates_at p e) _ now))
    (λ later. or_right (decides_at p e) _ (any_right p es later))
    (or_cases (clears_at p e) (list_any (clears_at p) es) h)

-- a path that an event tells of is one that it creates
new_created : (moves : MovesValue) (p : PathValue) (es : List EventValue) → is_new moves es p ≡ true →
    list_any (creates_at p) es ≡ true
new_created moves p [] h = absurd (true≢false (sym h))
new_created moves p (e ∷ es) h =
    ⊎_elim (λ later. or_right (creates_at p e) _ (new_created moves p es later))
    (λ now. or_left (creates_at p e) _ (by (is_creation e.kind) _ e.paths now))
    (either (source_among moves es p) (source_by moves e p) h)
  where
    either : (a b : Option PathValue) → is_some (option_or a b) ≡ true → (is_some a ≡ true) ⊎ (is_some b ≡ true)
    either None b k = inr k
    either (Some x) b k = inl refl

    by : (c : Bool) (x : Option PathValue) (ps : List PathValue) →
        is_some (if has_first (λ q. path_eq q p) ps then (if c then x else None) else None) ≡ true →
        (c && has_first (λ q. path_eq p q) ps) ≡ true
    by c x [] k = absurd (true≢false (sym k))
    by c x (q ∷ ps) k = rw (path_eq_equiv.symm p q) (at (path_eq q p) c k)
      where
        at : (f d : Bool) → is_some (if f then (if d then x else None) else None) ≡ true → (d && f) ≡ true
        at true true g = refl
        at true false g = absurd (true≢false (sym g))
        at false d g = absurd (true≢false (sym g))

-- an old path is that of a move
old_move : (moves : MovesValue) (p : PathValue) → IsStrictlySortedBy nat_cmp (keys_of moves) →
    is_old moves p ≡ true →
    (t : ℕ) × (m : MoveValue) × (move_with moves t ≡ Some m) × (is_prefix m.from p ≡ true)
old_move [] p s h = absurd (true≢false (sym h))
old_move (e ∷ es) p s h =
    ⊎_elim (λ now. (
      e.0,
      e.1,
      ap (λ b. cond b (Some e.1) (lookup (is_at (nat_cmp e.0)) es))
          (ap is_eq (tied_itself nat_cmp_total e.0)),
      now,
    ))
    (λ later. let more = old_move es p (sorted_tail nat_cmp e.0 (keys_of es) s) later in
    (more.0, more.1, by more.0 more.1 more.2 (is_at (nat_cmp more.0) e.0) refl, more.3))
    (or_cases (is_prefix e.1.from p) (is_old es p) h)
  where
    by : (t : ℕ) (m : MoveValue) → move_with es t ≡ Some m → (b : Bool) → is_at (nat_cmp t) e.0 ≡ b →
        cond b (Some e.1) (lookup (is_at (nat_cmp t)) es) ≡ Some m
    by t m found true is = let none = gone_after t e es s is in cc
    by t m found false is = found

-- the old path of a move is the one that was removed
removed_one : (rs cs : List PathValue) (m : MoveValue) → move_of rs cs ≡ Some m → rs ≡ m.from ∷ []
removed_one [] cs m h = cc
removed_one (r ∷ []) [] m h = cc
removed_one (r ∷ []) (c ∷ cs) m h = by (list_all (is_prefix c) cs && are_apart r c) h
  where
    by : (b : Bool) → (if b then Some (let x : MoveValue = record { from = r; to = c } in x) else None) ≡ Some m →
        r ∷ [] ≡ m.from ∷ []
    by true k = ap (λ (f : Option MoveValue). first f) k
      where
        first : Option MoveValue → List PathValue
        first None = []
        first (Some x) = x.from ∷ []
    by false k = cc
removed_one (r ∷ q ∷ rs) cs m h = cc

-- what lies at or below a path that was removed with a tracker is cleared
removed_clears : (t : ℕ) (p : PathValue) (es : List EventValue) →
    list_any (λ q. is_prefix q p) (paths_with is_removal t es) ≡ true → list_any (clears_at p) es ≡ true
removed_clears t p [] h = h
removed_clears t p (e ∷ es) h =
    ⊎_elim (λ now. or_left (clears_at p e) _
    (by (has_tracker t e.attrs.tracker) (is_removal e.kind) e.paths now))
    (λ later. or_right (clears_at p e) _ (removed_clears t p es later))
    (or_cases (list_any (λ q. is_prefix q p) (path_with is_removal t e))
    (list_any (λ q. is_prefix q p) (paths_with is_removal t es))
    (sym (list_any-append (λ q. is_prefix q p) (path_with is_removal t e) (paths_with is_removal t es)) ∙ h))
  where
    first : (ps : List PathValue) → list_any (λ q. is_prefix q p) (option_to_list (slice_get ps 0)) ≡ true →
        has_first (λ q. is_prefix q p) ps ≡ true
    first [] k = k
    first (x ∷ ps) k = ⊎_elim (λ now. now) (λ none. absurd (true≢false (sym none))) (or_cases (is_prefix x p) false k)

    by : (b c : Bool) (ps : List PathValue) →
        list_any (λ q. is_prefix q p) (if b && c then option_to_list (slice_get ps 0) else []) ≡ true →
        (c && has_first (λ q. is_prefix q p) ps) ≡ true
    by true true ps k = first ps k
    by true false ps k = absurd (true≢false (sym k))
    by false c ps k = absurd (true≢false (sym k))

-- an old path is cleared
old_cleared : (es : List EventValue) (moves : MovesValue) (p : PathValue) → AreMovesOf es moves →
    IsStrictlySortedBy nat_cmp (keys_of moves) → is_old moves p ≡ true → list_any (clears_at p) es ≡ true
old_cleared es moves p are s h =
    let found = old_move moves p s h in
    let one : paths_with is_removal found.0 es ≡ found.1.from ∷ [] =
    removed_one (paths_with is_removal found.0 es) (paths_with is_creation found.0 es) found.1
    (sym (are found.0) ∙ found.2) in
    removed_clears found.0 p es
    (ap (λ ps. list_any (λ q. is_prefix q p) ps) one ∙ or_left (is_prefix found.1.from p) false found.3)

-- whoever moves first, and then plays the events, has what is had without
pub leaves_played : (es : List EventValue) (moves : MovesValue) → AreMovesOf es moves →
    IsStrictlySortedBy nat_cmp (keys_of moves) → LeavesPlayed moves es
leaves_played es moves are sorted = λ a b s t h. decided es a b s t (λ p d. h p (neither p d))
  where
    neither : (p : PathValue) → list_any (decides_at p) es ≡ false → (is_old moves p || is_new moves es p) ≡ false
    neither p d =
        false_from_ne_true (is_old moves p || is_new moves es p)
        (λ yes. true≢false (sym (⊎_elim (λ old. any_right p es (old_cleared es moves p are sorted old))
        (λ new. any_left p es (new_created moves p es new))
        (or_cases (is_old moves p) (is_new moves es p) yes)) ∙ d))
