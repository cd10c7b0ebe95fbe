-- The order of two texts, as the first words that differ tell it.
use Rattle.std.proofs.Common.{◌≡◌, ◌≢◌, ℕ, ◌+◌, ◌-◌, ◌*◌, ◌^◌, ◌%◌, ◌<◌, ◌≤◌, ◌⊎◌, inl, inr, true, false, ◌||◌, List, length, get_or, min, take, drop, length-drop, take-take, refl, sym, ◌∙◌, ap, arith, None, Some, IfSome, nat_cmp}
use Rattle.std.proofs.Math.Nat.{mod-eq_of_lt, pow-le-pow_right}
use Rattle.std.proofs.lemmas.Bool.{cases_lt, cond_both, or_parts}
use Rattle.std.proofs.lemmas.List.{get_or-drop, get_or_default}
use Rattle.std.specs.Path.{slash, dot}
use Rattle.notify_paths.specs.TextSteps.{byte_in, common_bytes, is_dots, order_at, order_in_words, order_text, text_rank, half_in, word_in}
use Rattle.notify_paths.proofs.Digits.{common_low, digit_more}
use Rattle.notify_paths.proofs.Orders.{order_differs, order_short, skip_same}
use Rattle.notify_paths.proofs.Words.{IsBytes, Reads, digits_as_bytes, digit_apart, reads_eight, reads_four}
use lib.Dec.{eqb}

-- a text that begins with no dot does not begin with dots
no_dots : (text : List ℕ) → 0 < length text → eqb (get_or text 0 0) dot ≡ false → is_dots text ≡ false
no_dots text h e = rw (get_or_default text 0 slash 0 h, e) refl

module _ (a b : List ℕ) (i : ℕ) (ha : i < length a) (hb : i < length b) where
  -- the byte at i, as the rest has it first
  first : (text : List ℕ) → get_or (drop i text) 0 0 ≡ get_or text i 0
  first text = let here : i + 0 ≡ i = omega arith in get_or-drop i text 0 0 ∙ ap (λ n. get_or text n 0) here

  some : (text : List ℕ) → i < length text → 0 < length (drop i text)
  some text h = rw (length-drop i text) (omega (arith, h))

  -- by the first bytes that differ, if neither is a dot
  pub at_bytes : take i a ≡ take i b → get_or a i 0 ≢ get_or b i 0 →
      (eqb (get_or a i 0) dot || eqb (get_or b i 0) dot) ≡ false →
      Some (nat_cmp (text_rank (get_or a i 0)) (text_rank (get_or b i 0))) ≡ order_text a b
  at_bytes same differ plain =
      let parts = or_parts (eqb (get_or a i 0) dot) (eqb (get_or b i 0) dot) plain in
      let left : is_dots (drop i a) ≡ false = no_dots (drop i a) (some a ha) (rw (first a) parts.0) in
      let right : is_dots (drop i b) ≡ false = no_dots (drop i b) (some b hb) (rw (first b) parts.1) in
      let apart : get_or (drop i a) 0 0 ≢ get_or (drop i b) 0 0 = λ e. differ (sym (first a) ∙ e ∙ first b) in
      let told : order_at (drop i a) (drop i b)
      ≡ Some (nat_cmp (text_rank (get_or a i 0)) (text_rank (get_or b i 0))) =
      rw (left, right, first a, first b) refl in
      sym (skip_same a b i same ∙ order_differs (drop i a) (drop i b) (some a ha) (some b hb) apart ∙ told)

-- by the first words that differ
pub by_words : (k : ℕ) (a b : List ℕ) (i x y : ℕ) → Reads k a i x → Reads k b i y → x ≢ y → x < 2 ^ 64 → y < 2 ^ 64 →
    common_bytes x y < k → i + k ≤ length a → i + k ≤ length b → take i a ≡ take i b →
    IfSome (order_in_words x y) (λ o. Some o ≡ order_text a b)
by_words k a b i x y f g d low_x low_y within ha hb same =
    let n = common_bytes x y in
    let low = common_low x y d low_x low_y in
    let bytes : take (i + n) a ≡ take (i + n) b = digits_as_bytes k a b i x y f g n (omega (arith, within))
    (omega (arith, within, ha)) (omega (arith, within, hb)) low.1 same in
    let differ : get_or a (i + n) 0 ≢ get_or b (i + n) 0 = digit_apart k a b i x y f g n within low.1 low.2 in
    let one : byte_in x n ≡ get_or a (i + n) 0 = sym (f n within) in
    let two : byte_in y n ≡ get_or b (i + n) 0 = sym (g n within) in
    rw (one, two)
    (cond_both (eqb (get_or a (i + n) 0) dot || eqb (get_or b (i + n) 0) dot) None
    (Some (nat_cmp (text_rank (get_or a (i + n) 0)) (text_rank (get_or b (i + n) 0))))
    (λ r. IfSome r (λ o. Some o ≡ order_text a b)) (λ _. tt)
    (λ plain. at_bytes a b (i + n) (omega (arith, within, ha)) (omega (arith, within, hb)) bytes differ plain))

-- the same taken away from both changes no order
cmp_rest : (m n i : ℕ) → i ≤ m → i ≤ n → nat_cmp (m - i) (n - i) ≡ nat_cmp m n
cmp_rest m n i h k = grind (arith, h, k)

-- where the shorter text is the front of the other
pub at_end : (a b : List ℕ) (i : ℕ) → i ≡ min (length a) (length b) → take i a ≡ take i b →
    Some (nat_cmp (length a) (length b)) ≡ order_text a b
at_end a b i m same =
    let ha : i ≤ length a = omega (arith, m) in
    let hb : i ≤ length b = omega (arith, m) in
    let short : (eqb (length (drop i a)) 0 || eqb (length (drop i b)) 0) ≡ true =
    rw (length-drop i a, length-drop i b) (grind (arith, m)) in
    sym (skip_same a b i same ∙ order_short (drop i a) (drop i b) short
    ∙ ap Some (rw (length-drop i a, length-drop i b) (cmp_rest (length a) (length b) i ha hb)))

-- .. of eight bytes
pub by_eight : (a b : List ℕ) (i x y : ℕ) → IsBytes a → IsBytes b → x ≡ word_in a i → y ≡ word_in b i →
    x ≢ y → x < 2 ^ 64 → y < 2 ^ 64 → i + 8 ≤ length a → i + 8 ≤ length b → take i a ≡ take i b →
    IfSome (order_in_words x y) (λ o. Some o ≡ order_text a b)
by_eight a b i x y f g p q d low_x low_y ha hb same =
    by_words 8 a b i x y (reads_eight a i x f p) (reads_eight b i y g q) d low_x low_y
    (common_low x y d low_x low_y).0 ha hb same

-- what is the same of more is of less
pub fewer : (a b : List ℕ) (m n : ℕ) → m ≤ n → take n a ≡ take n b → take m a ≡ take m b
fewer a b m n h e = sym (take-take m n a h) ∙ ap (take m) e ∙ take-take m n b h

-- texts of which the shorter one ends with this word of k bytes, which both have
pub by_last : (k : ℕ) (a b : List ℕ) (n x : ℕ) → Reads k a (n - k) x → Reads k b (n - k) x → k ≤ n →
    n ≡ min (length a) (length b) → take (n - k) a ≡ take (n - k) b →
    Some (nat_cmp (length a) (length b)) ≡ order_text a b
by_last k a b n x f g h m same =
    let all : n - k + k ≡ n = omega (arith, h) in
    let bytes : take (n - k + k) a ≡ take (n - k + k) b = digits_as_bytes k a b (n - k) x x f g k (omega arith)
    (omega (arith, h, m)) (omega (arith, h, m)) refl same in
    at_end a b n m (rw all at bytes)

-- words of four bytes differ within these
half_within : (x y : ℕ) → x ≢ y → x < 2 ^ 32 → y < 2 ^ 32 → common_bytes x y < 4
half_within x y d hx hy = by (cases_lt (common_bytes x y) 4)
  where
    low : x % 2 ^ (8 * common_bytes x y) ≡ y % 2 ^ (8 * common_bytes x y)
    low = (common_low x y d (omega (arith, hx)) (omega (arith, hy))).1

    two : 0 < 2
    two = omega arith

    by : (common_bytes x y < 4) ⊎ (4 ≤ common_bytes x y) → common_bytes x y < 4
    by (inl h) = h
    by (inr h) =
        let wide : 32 ≤ 8 * common_bytes x y = omega (arith, h) in
        let most : 2 ^ 32 ≤ 2 ^ (8 * common_bytes x y) = pow-le-pow_right two wide in
        absurd (d (sym (mod-eq_of_lt (omega (arith, hx, most))) ∙ low ∙ mod-eq_of_lt (omega (arith, hy, most))))

-- .. of four bytes
pub by_four : (a b : List ℕ) (i x y : ℕ) → IsBytes a → IsBytes b → x ≡ half_in a i → y ≡ half_in b i →
    x ≢ y → x < 2 ^ 32 → y < 2 ^ 32 → i + 4 ≤ length a → i + 4 ≤ length b → take i a ≡ take i b →
    IfSome (order_in_words x y) (λ o. Some o ≡ order_text a b)
by_four a b i x y f g p q d hx hy ha hb same =
    by_words 4 a b i x y (reads_four a i x f p) (reads_four b i y g q) d (omega (arith, hx)) (omega (arith, hy))
    (half_within x y d hx hy) ha hb same

-- the first four bytes are the same as a number
pub first_four : (a b : List ℕ) (x : ℕ) → IsBytes a → IsBytes b → x ≡ half_in a 0 → x ≡ half_in b 0 →
    4 ≤ length a → 4 ≤ length b → take 4 a ≡ take 4 b
first_four a b x f g p q ha hb =
    digits_as_bytes 4 a b 0 x x (reads_four a 0 x f p) (reads_four b 0 x g q) 4 (omega arith) ha hb refl refl

-- the bytes of words that differ do so too
pub bytes_apart : (x y : ℕ) → x ≢ y → x < 2 ^ 64 → y < 2 ^ 64 →
    byte_in x (common_bytes x y) ≢ byte_in y (common_bytes x y)
bytes_apart x y d low_x low_y e =
    let n = common_bytes x y in
    let low = common_low x y d low_x low_y in
    let next : 8 + 8 * n ≡ 8 * n + 8 = omega arith in
    low.2 (rw next at (digit_more x y (8 * n) low.1 e))
