-- What waits at the source of a rename, by where the joined rename stands.
use Rattle.std.proofs.Common.{◌≡◌, ◌-◌, ◌≤◌, Bool, true, false, cond, List, [], ◌∷◌, refl, ap, sym, ◌∙◌, None, subst, arith, length, take, drop, get_or}
use Rattle.std.proofs.lemmas.List.{take_all}
use Rattle.notify_types.specs.Event.{Timed}
use Rattle.notify_types.specs.Kinds.{is_removal}
use Rattle.debounce_model.specs.Rename.{is_both, first_both, without_both}
use Rattle.debounce_model.specs.WellFormed.{HasNoBoth, IsBothInFront}

-- a list with a first element
pub cut : (xs : List Timed) (x : Timed) → 1 ≤ length xs → x ≡ get_or xs 0 x →
    x ∷ take (length xs - 1) (drop 1 xs) ≡ xs
cut [] x h e = absurd (omega (arith, h))
cut (y ∷ ys) x h e = let n : length (y ∷ ys) - 1 ≡ length ys = omega arith in
    rw (n, e) (ap (λ r. y ∷ r) (take_all (length ys) ys (omega arith)))

-- without joined renames
pub source_none : (xs : List Timed) → HasNoBoth xs → (None ≡ first_both xs) × (xs ≡ without_both xs)
source_none [] k = (refl, refl)
source_none (x ∷ xs) k = let r = source_none xs k.1 in rw k.0 (r.0, ap (λ ys. x ∷ ys) r.1)

-- where neither the first nor the second is a joined rename, none is
pub source_later : (x y : Timed) (xs : List Timed) → IsBothInFront (x ∷ y ∷ xs) → is_both x ≡ false →
    is_both y ≡ false → HasNoBoth (x ∷ y ∷ xs)
source_later x y xs k b c = (b, (c, by (is_removal x.event.kind) k))
  where
    by : (r : Bool) → HasNoBoth (cond r xs (y ∷ xs)) → HasNoBoth xs
    by true k = k
    by false k = k.1

-- .. as the code finds them
pub source_neither : (xs : List Timed) (x y : Timed) → IsBothInFront xs → 1 ≤ length xs → x ≡ get_or xs 0 x →
    1 ≤ length (take (length xs - 1) (drop 1 xs)) → y ≡ get_or (take (length xs - 1) (drop 1 xs)) 0 y →
    is_both x ≡ false → is_both y ≡ false → HasNoBoth xs
source_neither xs x y k n e m f b c =
    let ys : List Timed = take (length xs - 1) (drop 1 xs) in
    let zs : List Timed = take (length ys - 1) (drop 1 ys) in
    let whole : x ∷ y ∷ zs ≡ xs = ap (λ (r : List Timed). x ∷ r) (cut ys y m f) ∙ cut xs x n e in
    subst (λ (r : List Timed). HasNoBoth r) whole
    (source_later x y zs (subst (λ (r : List Timed). IsBothInFront r) (sym whole) k) b c)
