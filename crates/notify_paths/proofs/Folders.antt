-- What the folders above a path are.
use Rattle.std.proofs.Common.{◌≡◌, ◌≢◌, ℕ, zero, suc, ◌+◌, ◌-◌, ◌<◌, ◌≤◌, Bool, true, false, not, [], ◌∷◌, ◌++◌, length, get_or, slice_get, option_and_then, map, drop, take, take-append-drop, length-append, length-take-le, refl, sym, ◌∙◌, ap, ap₂, subst, arith, Some}
use Rattle.std.proofs.lemmas.Bool.{false≢true, and_parts, and_from, not-true}
use Rattle.std.specs.List.{Contains}
use Rattle.notify_paths.specs.Path.{PathValue, part_eq, path_eq, is_prefix, is_below}
use Rattle.notify_paths.specs.PathLaws.{part_eq_decides, path_eq_decides}
use Rattle.notify_paths.specs.PathMoves.{name_of, file_name_of, first_parts, folders_above, nearest, parent_of, AreFoldersAbove}
use Rattle.std.proofs.lemmas.List.{map-append}
use Rattle.std.proofs.lemmas.Option.{slice_get_read}
use Rattle.std.proofs.Math.Seq.{get_or-append_seam}
use Rattle.std.proofs.Common.{⊎_elim, List}
use Rattle.notify_paths.specs.Path.{PartValue, RootPart}
use Rattle.notify_paths.specs.PathText.{parts_of, part_of, part_text, text_after, text_of, all_inner, IsPath, IsNormal}
use Rattle.notify_paths.proofs.Begins.{head, plain_front}
use Rattle.notify_paths.proofs.Orders.{is_plain, plain_inner}
use Rattle.notify_paths.proofs.Texts.{inner_parts, inner_wants, parts_of_is_path}
use mathlib.Core.List.{append-nil}
use Rattle.notify_paths.proofs.Joins.{first-append, prefix_whole}

-- the first parts do not see what stands behind them
first-take : (n m : ℕ) (p : PathValue) → n ≤ m → m ≤ length p → first_parts n p ≡ first_parts n (take m p)
first-take n m p h k =
    ap (first_parts n) (sym (take-append-drop m p))
    ∙ first-append n (take m p) (drop m p) (rw (length-take-le m p k) h)

-- the folders above a path are its parent, and the folders above that
pub folders_of_parent : (path parent : PathValue) → parent_of path ≡ Some parent → folders_above path
    ≡ parent ∷ folders_above parent
folders_of_parent path parent h = by (length path - 1) refl h
  where
    by : (n : ℕ) → length path - 1 ≡ n → nearest (first_parts n path) ≡ Some parent → first_parts n path
        ≡ parent ∷ folders_above parent
    by zero e h = cc
    by (suc n) e h =
        let same : take (suc n) path ≡ parent = cc in
        let fits : suc n ≤ length path = omega (arith, e) in
        let len : length parent ≡ suc n = ap length (sym same) ∙ length-take-le (suc n) path fits in
        let count : length parent - 1 ≡ n = omega (arith, len) in
        ap₂ (λ a l. a ∷ l) same (first-take n (suc n) path (omega arith) fits ∙ ap (first_parts n) same
        ∙ ap (λ k. first_parts k parent) (sym count))

length-first : (n : ℕ) (p : PathValue) → length (first_parts n p) ≡ n
length-first zero p = refl
length-first (suc n) p = ap suc (length-first n p)

first_at : (n k : ℕ) (p d : PathValue) → k < n → get_or (first_parts n p) k d ≡ take (n - k) p
first_at zero k p d h = absurd (omega (arith, h))
first_at (suc n) zero p d h = let e : suc n ≡ suc n - 0 = omega arith in ap (λ m. take m p) e
first_at (suc n) (suc k) p d h = let e : n - k ≡ suc n - suc k = omega (arith, h) in
    first_at n k p d (omega (arith, h)) ∙ ap (λ m. take m p) e

prefix_take : (m : ℕ) (p : PathValue) → is_prefix (take m p) p ≡ true
prefix_take zero p = refl
prefix_take (suc m) [] = refl
prefix_take (suc m) (x ∷ p) =
    and_from (part_eq x x) (is_prefix (take m p) p) ((part_eq_decides x x).1 refl) (prefix_take m p)

-- some of the first parts, but neither none nor all
take_below : (m : ℕ) (p : PathValue) → 0 < m → m < length p → (is_below p (take m p) ≡ true) × (take m p ≢ [])
take_below m p h k =
    let len : length (take m p) ≡ m = length-take-le m p (omega (arith, k)) in (
      and_from (is_prefix (take m p) p) (not (path_eq p (take m p))) (prefix_take m p)
          (by (path_eq p (take m p)) refl len),
      λ e. absurd (omega (arith, h, len, ap length e)),
    )
  where
    by : (t : Bool) → path_eq p (take m p) ≡ t → length (take m p) ≡ m → not (path_eq p (take m p)) ≡ true
    by true e len = absurd (omega (arith, k, len, ap length ((path_eq_decides p (take m p)).0 e)))
    by false e len = ap not e

sound : (p f : PathValue) → Contains (folders_above p) f → (is_below p f ≡ true) × (f ≢ [])
sound p f c =
    let n = length p - 1 in
    let k = c.0 in
    let within : k < n = subst (λ l. k < l) (length-first n p) c.1 in
    let same : take (n - k) p ≡ f = sym (first_at n k p f within) ∙ c.2 in
    subst (λ t. (is_below p t ≡ true) × (t ≢ [])) same
    (take_below (n - k) p (omega (arith, within)) (omega (arith, within)))

some_length : (f : PathValue) → f ≢ [] → 0 < length f
some_length [] h = absurd (h refl)
some_length (x ∷ f) h = omega arith

take_front : (f r : PathValue) → take (length f) (f ++ r) ≡ f
take_front [] r = refl
take_front (x ∷ f) r = ap (λ l. x ∷ l) (take_front f r)

complete : (p f : PathValue) → is_below p f ≡ true → f ≢ [] → Contains (folders_above p) f
complete p f h some = by (drop (length f) p) (prefix_whole f p two.0)
  where
    two : (is_prefix f p ≡ true) × (not (path_eq p f) ≡ true)
    two = and_parts (is_prefix f p) (not (path_eq p f)) h

    by : (r : PathValue) → f ++ r ≡ p → Contains (folders_above p) f
    by [] e = absurd (false≢true (sym (not-true (path_eq p f) two.1)
        ∙ (path_eq_decides p f).1 (sym e ∙ append-nil f)))
    by (x ∷ r) e =
        let n = length p - 1 in
        let m = length f in
        let positive : 0 < m = some_length f some in
        let len : length p ≡ m + length (x ∷ r) = ap length (sym e) ∙ length-append f (x ∷ r) in
        let within : n - m < n = omega (arith, positive, len) in
        let back : n - (n - m) ≡ m = omega (arith, positive, len) in (
          n - m,
          subst (λ l. n - m < l) (sym (length-first n p)) within,
          first_at n (n - m) p f within
              ∙ ap (λ j. take j p) back ∙ ap (take m) (sym e) ∙ take_front f (x ∷ r),
        )

-- the folders above a path are the paths that it lies below, without the empty path
pub above_says : (path : PathValue) → AreFoldersAbove path (folders_above path)
above_says path f = (sound path f, λ h. complete path f h.0 h.1)

-- a path has no more parts than its text has bytes
inner_bytes : (p : PathValue) → all_inner p ≡ true → length p ≤ length (text_after true p)
inner_bytes [] h = omega arith
inner_bytes (x ∷ p) h =
    let two = inner_parts x p h in
    let more : length p ≤ length (text_after true p) = inner_bytes p two.1 in
    rw (inner_wants x two.0, length-append (part_text x) (text_after true p)) (omega (arith, more))

front_bytes : (x : PartValue) (p : PathValue) → is_plain x ≡ true → all_inner p ≡ true →
    suc (length p) ≤ length (part_text x ++ text_after true p)
front_bytes x p h k =
    let f = plain_front x [] h in
    let some : length (part_text x) ≡ suc (length f.1) = ap length (sym (append-nil (part_text x)) ∙ f.2) in
    let more : length p ≤ length (text_after true p) = inner_bytes p k in
    rw (length-append (part_text x) (text_after true p)) (omega (arith, some, more))

path_bytes : (p : PathValue) → IsPath p → length p ≤ length (text_of p)
path_bytes [] h = omega arith
path_bytes (x ∷ p) h =
    ⊎_elim (λ r. subst (λ z. length (z ∷ p) ≤ length (text_of (z ∷ p))) (sym r.0) (root p r.1))
    (λ e. rw e.2 (front_bytes x p e.0 e.1)) (head x p h)
  where
    root : (p : PathValue) → all_inner p ≡ true → length (RootPart ∷ p) ≤ length (text_of (RootPart ∷ p))
    root [] k = omega arith
    root (y ∷ q) k =
        let two = inner_parts y q k in
        let more : suc (length q) ≤ length (part_text y ++ text_after true q) =
        front_bytes y q (plain_inner y two.0) two.1 in
        rw (inner_wants y two.0) (omega (arith, more))

pub parts_fit : (text : List ℕ) (path : PathValue) (n : ℕ) → IsNormal text → parts_of text ≡ path →
    length text < n → length path < n
parts_fit text path n h e k =
    let few : length (parts_of text) ≤ length (text_of (parts_of text)) =
    path_bytes (parts_of text) (parts_of_is_path text) in
    omega (arith, few, ap length h, ap length e, k)

pub folders_fit : (path : PathValue) (n : ℕ) → length path < n → length (folders_above path) < n
folders_fit path n h = rw (length-first (length path - 1) path) (omega (arith, h))

-- the last of these parts is the one that was put after the others
pub last_is : {X : Type 0} (xs : List X) (x : X) → slice_get (xs ++ x ∷ []) (length (xs ++ x ∷ []) - 1) ≡ Some x
last_is xs x =
    let longer : length (xs ++ x ∷ []) ≡ length xs + 1 = length-append xs (x ∷ []) in
    let place : length (xs ++ x ∷ []) - 1 ≡ length xs = omega (arith, longer) in
    ap (slice_get (xs ++ x ∷ [])) place
    ∙ slice_get_read (xs ++ x ∷ []) (length (xs ++ x ∷ [])) (length xs) x refl (omega (arith, longer))
    (sym (get_or-append_seam xs x [] x))

-- the file name of a path is read off the last of its components
pub file_name_at : (all rest : List (List ℕ)) (last : List ℕ) → all ≡ rest ++ last ∷ [] →
    file_name_of (map part_of all) ≡ name_of (part_of last)
file_name_at all rest last e =
    ap (λ l. file_name_of (map part_of l)) e
    ∙ ap file_name_of (map-append part_of rest (last ∷ []))
    ∙ ap (option_and_then name_of) (last_is (map part_of rest) (part_of last))
