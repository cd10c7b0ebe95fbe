-- The bytes that two words have in common, by the lowest bit in which they differ.
use Rattle.std.proofs.Common.{◌≡◌, ◌≢◌, ℕ, zero, ◌+◌, ◌*◌, ◌/◌, ◌%◌, ◌^◌, ◌<◌, ◌⊎◌, inl, inr, ap, ap₂, sym, ◌∙◌, arith}
use Rattle.std.specs.Int.{w64, bit_at, trailing_zeros}
use Rattle.std.specs.Int.Bits.{bit_xor}
use Rattle.std.proofs.Math.Nat.{add_right_cancel, eq-zero-or-pos, eq_of_mul-eq-mul_right, mod-lt}
use Rattle.std.proofs.Math.Pow.{mod-mod-pow}
use Rattle.std.proofs.lemmas.Nat.{div-add-mod', mod-pow-add, pow_pos, xor_lt}
use Rattle.std.proofs.lemmas.Nat.Bits.{bit_at-lt, bit_at-trailing_zeros, bit_at-zero, bit_at_cat_low, bit_at_xor, same_from_bits, same_from_bits_below}

-- the low digits have the number's bits
low_bits : (x k i : ℕ) → i < k → bit_at (x % 2 ^ k) i ≡ bit_at x i
low_bits x k i h = sym (bit_at_cat_low (x / 2 ^ k) k (x % 2 ^ k) i h)
    ∙ ap (λ n. bit_at n i) (div-add-mod' x (2 ^ k))

-- numbers with the same low bits have the same low digits
low_same : (x y k : ℕ) → ((i : ℕ) → i < k → bit_at x i ≡ bit_at y i) → x % 2 ^ k ≡ y % 2 ^ k
low_same x y k f =
    same_from_bits_below k (x % 2 ^ k) (y % 2 ^ k) (mod-lt x (pow_pos k)) (mod-lt y (pow_pos k))
    (λ i h. low_bits x k i h ∙ f i h ∙ sym (low_bits y k i h))

-- bits whose sum is even are the same
same_bit : (a b : ℕ) → a < 2 → b < 2 → (a + b) % 2 ≡ 0 → a ≡ b
same_bit a b h k e = omega (arith, h, k, e)

-- where no bit says so, the numbers do not differ
same_at : (x y i : ℕ) → bit_at (bit_xor x y) i ≡ 0 → bit_at x i ≡ bit_at y i
same_at x y i e = same_bit (bit_at x i) (bit_at y i) (bit_at-lt x i) (bit_at-lt y i) (sym (bit_at_xor x y i)
    ∙ e)

-- numbers that differ do so in a bit
apart : (x y : ℕ) → x ≢ y → 0 < bit_xor x y
apart x y d = by (eq-zero-or-pos (bit_xor x y))
  where
    by : (bit_xor x y ≡ zero) ⊎ (zero < bit_xor x y) → 0 < bit_xor x y
    by (inl e) = absurd (d (same_from_bits x y (λ i. same_at x y i (ap (λ n. bit_at n i) e ∙ bit_at-zero i))))
    by (inr h) = h

-- the bytes below that of the lowest bit in which two words differ are the same, and that one is not
pub common_low : (x y : ℕ) → x ≢ y → x < 2 ^ 64 → y < 2 ^ 64 → (trailing_zeros w64 (bit_xor x y) / 8 < 8)
    × (x % 2 ^ (8 * (trailing_zeros w64 (bit_xor x y) / 8))
    ≡ y % 2 ^ (8 * (trailing_zeros w64 (bit_xor x y) / 8)))
    × (x % 2 ^ (8 * (trailing_zeros w64 (bit_xor x y) / 8) + 8) ≢ y % 2 ^
    (8 * (trailing_zeros w64 (bit_xor x y) / 8) + 8))
common_low x y d low_x low_y =
    let t = trailing_zeros w64 (bit_xor x y) in
    let lowest = bit_at-trailing_zeros w64 (bit_xor x y) (apart x y d) (xor_lt 64 x y low_x low_y) in
    let within : t < 64 = lowest.0 in (
      omega (arith, within),
      low_same x y (8 * (t / 8)) (λ i h. same_at x y i (lowest.2 i (omega (arith, h)))),
      λ e. differs t within lowest.1 e,
    )
  where
    differs : (t : ℕ) → t < 64 → bit_at (bit_xor x y) t ≡ 1 → x % 2 ^ (8 * (t / 8) + 8)
        ≡ y % 2 ^ (8 * (t / 8) + 8) → ⊥
    differs t within one e =
        let k = 8 * (t / 8) + 8 in
        let near : t < k = omega (arith, within) in
        let same : bit_at x t ≡ bit_at y t = sym (low_bits x k t near) ∙ ap (λ n. bit_at n t) e
        ∙ low_bits y k t near in
        let odd : (bit_at x t + bit_at y t) % 2 ≡ 1 = sym (bit_at_xor x y t) ∙ one in
        absurd (omega (arith, same, odd, bit_at-lt x t))

-- words with the same low digits have the same digits
pub digit_same : (x y k : ℕ) → x % 2 ^ (8 + k) ≡ y % 2 ^ (8 + k) → x / 2 ^ k % 2 ^ 8 ≡ y / 2 ^ k % 2 ^ 8
digit_same x y k e =
    let low : x % 2 ^ k ≡ y % 2 ^ k = sym (mod-mod-pow x 8 k) ∙ ap (λ n. n % 2 ^ k) e ∙ mod-mod-pow y 8 k in
    let sum : (x / 2 ^ k % 2 ^ 8) * 2 ^ k + x % 2 ^ k ≡ (y / 2 ^ k % 2 ^ 8) * 2 ^ k + x % 2 ^ k =
    sym (mod-pow-add x 8 k) ∙ e ∙ mod-pow-add y 8 k ∙ ap (λ r. (y / 2 ^ k % 2 ^ 8) * 2 ^ k + r) (sym low) in
    eq_of_mul-eq-mul_right (2 ^ k) (pow_pos k) (x / 2 ^ k % 2 ^ 8) (y / 2 ^ k % 2 ^ 8)
    (add_right_cancel (x % 2 ^ k) sum)

-- words with the same digit after the same low digits have one more in common
pub digit_more : (x y k : ℕ) → x % 2 ^ k ≡ y % 2 ^ k → x / 2 ^ k % 2 ^ 8 ≡ y / 2 ^ k % 2 ^ 8 →
    x % 2 ^ (8 + k) ≡ y % 2 ^ (8 + k)
digit_more x y k e d = mod-pow-add x 8 k ∙ ap₂ (λ d r. d * 2 ^ k + r) d e ∙ sym (mod-pow-add y 8 k)

-- words with the same low digits have fewer in common too
pub digits_fewer : (x y k : ℕ) → x % 2 ^ (8 + k) ≡ y % 2 ^ (8 + k) → x % 2 ^ k ≡ y % 2 ^ k
digits_fewer x y k e = sym (mod-mod-pow x 8 k) ∙ ap (λ n. n % 2 ^ k) e ∙ mod-mod-pow y 8 k
