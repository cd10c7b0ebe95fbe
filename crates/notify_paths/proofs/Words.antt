-- Eight bytes at once.
use Rattle.std.proofs.Common.{◌≡◌, ◌≢◌, ℕ, zero, suc, ◌+◌, ◌*◌, ◌/◌, ◌%◌, ◌^◌, ◌<◌, ◌≤◌, List, [], ◌∷◌, ◌++◌, length, get_or, take, refl, sym, ◌∙◌, ap, ap₂, arith}
use Rattle.std.specs.Int.{w32, w64, from_le_bytes, to_le_bytes}
use Rattle.std.proofs.lemmas.Nat.{le_bytes_4, le_bytes_8}
use Rattle.std.proofs.lemmas.List.{take_more}
use Rattle.std.proofs.Math.Nat.{div-one}
use Rattle.notify_paths.specs.TextSteps.{eight_bytes, four_bytes}
use Rattle.notify_paths.proofs.Digits.{digit_same, digit_more, digits_fewer}

-- each is a byte
abbrev pub IsBytes : List ℕ → Type 0
IsBytes text = (i : ℕ) → get_or text i 0 < 256

eight_are_bytes : (text : List ℕ) (i : ℕ) → IsBytes text → IsBytes (eight_bytes text i)
eight_are_bytes text i f zero = f i
eight_are_bytes text i f (suc zero) = f (i + 1)
eight_are_bytes text i f (suc (suc zero)) = f (i + 2)
eight_are_bytes text i f (suc (suc (suc zero))) = f (i + 3)
eight_are_bytes text i f (suc (suc (suc (suc zero)))) = f (i + 4)
eight_are_bytes text i f (suc (suc (suc (suc (suc zero))))) = f (i + 5)
eight_are_bytes text i f (suc (suc (suc (suc (suc (suc zero)))))) = f (i + 6)
eight_are_bytes text i f (suc (suc (suc (suc (suc (suc (suc zero))))))) = f (i + 7)
eight_are_bytes text i f (suc (suc (suc (suc (suc (suc (suc (suc j)))))))) = omega arith

-- bytes that are the same as a number are the same
pub same_eight : (a b : List ℕ) (i m : ℕ) → IsBytes a → IsBytes b → m ≡ from_le_bytes w64 (eight_bytes a i) →
    m ≡ from_le_bytes w64 (eight_bytes b i) → eight_bytes a i ≡ eight_bytes b i
same_eight a b i m f g p q =
    sym (le_bytes_8 (eight_bytes a i) m refl (eight_are_bytes a i f) p)
    ∙ le_bytes_8 (eight_bytes b i) m refl (eight_are_bytes b i g) q

-- one more byte
more : (a b : List ℕ) (i j : ℕ) → j ≡ i + 1 → i < length a → i < length b → get_or a i 0 ≡ get_or b i 0 →
    take i a ≡ take i b → take j a ≡ take j b
more a b i j q h k e t =
    ap (λ n. take n a) q ∙ take_more a i 0 h ∙ ap₂ (λ l x. l ++ x ∷ []) t e ∙ sym (take_more b i 0 k)
    ∙ ap (λ n. take n b) (sym q)

-- eight more bytes
pub eight_more : (a b : List ℕ) (i j : ℕ) → j ≡ i + 8 → j ≤ length a → j ≤ length b →
    eight_bytes a i ≡ eight_bytes b i → take i a ≡ take i b → take j a ≡ take j b
eight_more a b i j q h k e t =
    more a b (i + 7) j (omega (arith, q)) (omega (arith, q, h)) (omega (arith, q, k)) (ap (λ l. get_or l 7 0) e)
    (more a b (i + 6) (i + 7) (omega arith) (omega (arith, q, h)) (omega (arith, q, k))
    (ap (λ l. get_or l 6 0) e)
    (more a b (i + 5) (i + 6) (omega arith) (omega (arith, q, h)) (omega (arith, q, k))
    (ap (λ l. get_or l 5 0) e)
    (more a b (i + 4) (i + 5) (omega arith) (omega (arith, q, h)) (omega (arith, q, k))
    (ap (λ l. get_or l 4 0) e)
    (more a b (i + 3) (i + 4) (omega arith) (omega (arith, q, h)) (omega (arith, q, k))
    (ap (λ l. get_or l 3 0) e)
    (more a b (i + 2) (i + 3) (omega arith) (omega (arith, q, h)) (omega (arith, q, k))
    (ap (λ l. get_or l 2 0) e)
    (more a b (i + 1) (i + 2) (omega arith) (omega (arith, q, h)) (omega (arith, q, k))
    (ap (λ l. get_or l 1 0) e)
    (more a b i (i + 1) (omega arith) (omega (arith, q, h)) (omega (arith, q, k)) (ap (λ l. get_or l 0 0) e)
    t)))))))

-- a byte of the text is a digit of the word
byte_is : (text : List ℕ) (i n m : ℕ) → IsBytes text → n < 8 → m ≡ from_le_bytes w64 (eight_bytes text i) →
    get_or text (i + n) 0 ≡ m / 2 ^ (8 * n) % 2 ^ 8
byte_is text i n m f h q = by n h
  where
    all : to_le_bytes w64 m ≡ eight_bytes text i
    all = le_bytes_8 (eight_bytes text i) m refl (eight_are_bytes text i f) q

    by : (n : ℕ) → n < 8 → get_or text (i + n) 0 ≡ m / 2 ^ (8 * n) % 2 ^ 8
    by zero h = let here : i + 0 ≡ i = omega arith in
        rw here (sym (ap (λ l. get_or l 0 0) all) ∙ ap (λ n. n % 256) (sym (div-one m)))
    by (suc zero) h = sym (ap (λ l. get_or l 1 0) all)
    by (suc (suc zero)) h = sym (ap (λ l. get_or l 2 0) all)
    by (suc (suc (suc zero))) h = sym (ap (λ l. get_or l 3 0) all)
    by (suc (suc (suc (suc zero)))) h = sym (ap (λ l. get_or l 4 0) all)
    by (suc (suc (suc (suc (suc zero))))) h = sym (ap (λ l. get_or l 5 0) all)
    by (suc (suc (suc (suc (suc (suc zero)))))) h = sym (ap (λ l. get_or l 6 0) all)
    by (suc (suc (suc (suc (suc (suc (suc zero))))))) h = sym (ap (λ l. get_or l 7 0) all)
    by (suc (suc (suc (suc (suc (suc (suc (suc n)))))))) h = omega (arith, h)

-- the first k digits of the word are the bytes of the text from i on
abbrev pub Reads : ℕ → List ℕ → ℕ → ℕ → Type 0
Reads k text i m = (n : ℕ) → n < k → get_or text (i + n) 0 ≡ m / 2 ^ (8 * n) % 2 ^ 8

pub reads_eight : (text : List ℕ) (i m : ℕ) → IsBytes text → m ≡ from_le_bytes w64 (eight_bytes text i) →
    Reads 8 text i m
reads_eight text i m f q n h = byte_is text i n m f h q

four_are_bytes : (text : List ℕ) (i : ℕ) → IsBytes text → IsBytes (four_bytes text i)
four_are_bytes text i f zero = f i
four_are_bytes text i f (suc zero) = f (i + 1)
four_are_bytes text i f (suc (suc zero)) = f (i + 2)
four_are_bytes text i f (suc (suc (suc zero))) = f (i + 3)
four_are_bytes text i f (suc (suc (suc (suc j)))) = omega arith

pub reads_four : (text : List ℕ) (i m : ℕ) → IsBytes text → m ≡ from_le_bytes w32 (four_bytes text i) →
    Reads 4 text i m
reads_four text i m f q n h = by n h
  where
    all : to_le_bytes w32 m ≡ four_bytes text i
    all = le_bytes_4 (four_bytes text i) m refl (four_are_bytes text i f) q

    by : (n : ℕ) → n < 4 → get_or text (i + n) 0 ≡ m / 2 ^ (8 * n) % 2 ^ 8
    by zero h = let here : i + 0 ≡ i = omega arith in
        rw here (sym (ap (λ l. get_or l 0 0) all) ∙ ap (λ n. n % 256) (sym (div-one m)))
    by (suc zero) h = sym (ap (λ l. get_or l 1 0) all)
    by (suc (suc zero)) h = sym (ap (λ l. get_or l 2 0) all)
    by (suc (suc (suc zero))) h = sym (ap (λ l. get_or l 3 0) all)
    by (suc (suc (suc (suc n)))) h = omega (arith, h)

module _ (k : ℕ) (a b : List ℕ) (i x y : ℕ) (f : Reads k a i x) (g : Reads k b i y) where
  -- the bytes are the same where the low digits of the words are
  pub digits_as_bytes : (n : ℕ) → n ≤ k → i + n ≤ length a → i + n ≤ length b →
      x % 2 ^ (8 * n) ≡ y % 2 ^ (8 * n) → take i a ≡ take i b → take (i + n) a ≡ take (i + n) b
  digits_as_bytes zero l h j e t = let here : i + 0 ≡ i = omega arith in rw here t
  digits_as_bytes (suc n) l h j e t =
      let low : n < k = omega (arith, l) in
      let next : 8 * suc n ≡ 8 + 8 * n = omega arith in
      let digits : x % 2 ^ (8 + 8 * n) ≡ y % 2 ^ (8 + 8 * n) = rw next at e in
      let byte : get_or a (i + n) 0 ≡ get_or b (i + n) 0 = f n low ∙ digit_same x y (8 * n) digits
      ∙ sym (g n low) in
      more a b (i + n) (i + suc n) (omega arith) (omega (arith, h)) (omega (arith, j)) byte
      (digits_as_bytes n (omega (arith, l)) (omega (arith, h)) (omega (arith, j))
      (digits_fewer x y (8 * n) digits) t)

  -- .. and a byte differs where the next digits do
  pub digit_apart : (n : ℕ) → n < k → x % 2 ^ (8 * n) ≡ y % 2 ^ (8 * n) →
      x % 2 ^ (8 * n + 8) ≢ y % 2 ^ (8 * n + 8) → get_or a (i + n) 0 ≢ get_or b (i + n) 0
  digit_apart n l e d byte =
      let next : 8 + 8 * n ≡ 8 * n + 8 = omega arith in
      d (rw next at (digit_more x y (8 * n) e (sym (f n l) ∙ byte ∙ g n l)))
