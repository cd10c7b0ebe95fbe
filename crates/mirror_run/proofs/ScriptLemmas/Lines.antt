-- The first line of a text, and what a line does to a reading. The functions that read scripts cite these.
use Rattle.std.proofs.Common.{◌≡◌, ℕ, ◌<◌, ◌+◌, ◌∙◌, ap, Bool, true, false, cond, ◌==◌, List, [], ◌∷◌, length, take, drop, Some, None, arith, refl, ◌≤◌}
use Rattle.std.specs.Prelude.{nat_lt, position}
use Rattle.std.specs.List.{position_or_len, slice_split, before_first, after_first}
use Rattle.std.specs.Str.{IsUtf8, is_utf8}
use Rattle.std.specs.Str.Lines.{lines, lines_of_parts, strip_carriage_return}
use Rattle.std.proofs.lemmas.Bool.{false_from_ne_true, cond-false}
use Rattle.std.proofs.lemmas.Bool.Decides.{nat_tests}
use Rattle.std.proofs.lemmas.List.Splits.{slice_split_first, length-slice_split}
use Rattle.std.proofs.lemmas.Str.{IsUtf8-from_is_utf8}
use Rattle.mirror_run.specs.Script.{ReadingValue, line_of, is_skipped, said_if, after_line}

-- a part before a line feed is a line, without its carriage return
part_first : (x : List ℕ) (parts : List (List ℕ)) → 0 < length parts → lines_of_parts (x ∷ parts)
    ≡ strip_carriage_return x ∷ lines_of_parts parts
part_first x [] h = absurd (omega arith)
part_first x (y ∷ more) h = refl

-- where there is a position, it is that of the first that passes
position_is : {X : Type 0} (p : X → Bool) (xs : List X) (at : ℕ) → position p xs ≡ Some at →
    (position_or_len p xs ≡ at) × (position_or_len p xs < length xs)
position_is p xs at h = by (nat_lt (position_or_len p xs) (length xs)) refl h
  where
    by : (b : Bool) → nat_lt (position_or_len p xs) (length xs) ≡ b → cond b (Some (position_or_len p xs)) None
        ≡ Some at → (position_or_len p xs ≡ at) × (position_or_len p xs < length xs)
    by true e q = (cc, grind (arith, nat_tests))
    by false e q = (cc, cc)

-- the text up to its first line feed is its first line
pub lines-at : (bs : List ℕ) (at : ℕ) → position (λ b. b == 10) bs ≡ Some at →
    lines bs ≡ strip_carriage_return (take at bs) ∷ lines (drop (at + 1) bs)
lines-at bs at h =
    let two = position_is (λ b. b == 10) bs at h in
    let parts : List (List ℕ) = slice_split (λ b. b == 10) (after_first (λ b. b == 10) bs) in
    let some : 0 < length parts =
    omega (arith, length-slice_split (λ b. b == 10) (after_first (λ b. b == 10) bs)) in
    ap lines_of_parts (slice_split_first (λ b. b == 10) bs 0 two.1)
    ∙ part_first (before_first (λ b. b == 10) bs) parts some
    ∙ ap (λ n. strip_carriage_return (take n bs) ∷ lines (drop (n + 1) bs)) two.0

-- where the first that passes stands behind the end, nothing is cut
uncut : {X : Type 0} (p : X → Bool) (xs : List X) → length xs ≤ position_or_len p xs →
    slice_split p xs ≡ xs ∷ []
uncut p [] h = refl
uncut p (x ∷ xs) h = by (p x) refl (uncut p xs)
  where
    by : (b : Bool) → p x ≡ b → (length xs ≤ position_or_len p xs → slice_split p xs ≡ xs ∷ []) →
        slice_split p (x ∷ xs) ≡ (x ∷ xs) ∷ []
    by true e more = absurd (omega (arith, rw e at h))
    by false e more = rw (e, more (omega (arith, rw e at h))) refl

-- a text without a line feed is one line, where it isn't empty
pub lines-last : (bs : List ℕ) → position (λ b. b == 10) bs ≡ None → 0 < length bs → lines bs ≡ bs ∷ []
lines-last bs h some =
    ap lines_of_parts
    (uncut (λ b. b == 10) bs (behind (nat_lt (position_or_len (λ b. b == 10) bs) (length bs)) refl h))
    ∙ cond-false (length bs == 0) [] (bs ∷ []) (grind (arith, nat_tests))
  where
    behind : (b : Bool) → nat_lt (position_or_len (λ b. b == 10) bs) (length bs) ≡ b →
        cond b (Some (position_or_len (λ b. b == 10) bs)) None ≡ None →
        length bs ≤ position_or_len (λ b. b == 10) bs
    behind true e q = cc
    behind false e q = grind (arith, nat_tests)

-- a line that isn't UTF-8 fails
pub after_line-fault : (r : ReadingValue) (line : List ℕ) → ¬ (IsUtf8 line) → after_line r line ≡ None
after_line-fault r line h = rw (false_from_ne_true (is_utf8 line) (λ e. h (IsUtf8-from_is_utf8 line e))) refl

-- a skipped line leaves the reading
pub after_line-skipped : (r : ReadingValue) (line : List ℕ) → is_utf8 line ≡ true → is_skipped line ≡ true →
    after_line r line ≡ Some r
after_line-skipped r line u s = rw (u, s) refl

-- another line says something
pub after_line-said : (r : ReadingValue) (line : List ℕ) → is_utf8 line ≡ true → is_skipped line ≡ false →
    after_line r line ≡ said_if r (line_of line)
after_line-said r line u s = rw (u, s) refl
