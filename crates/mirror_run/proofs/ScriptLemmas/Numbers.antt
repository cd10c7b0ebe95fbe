-- What `parse` makes of a text without a plus is the number of the text.
use Rattle.std.proofs.Common.{◌≡◌, ℕ, ◌<◌, ◌^◌, ◌∙◌, sym, ap, true, ◌&&◌, not, List, length, Some, None, Result, Ok, Err, arith, refl, ◌==◌}
use Rattle.std.specs.Prelude.{nat_lt}
use Rattle.std.specs.Result.{OkIff, result_ok}
use Rattle.std.specs.Str.{all_ascii_digits}
use Rattle.std.specs.Str.Parse.{digits_value}
use Rattle.std.proofs.lemmas.Bool.{and_parts, cond-true, cond_both}
use Rattle.std.proofs.lemmas.Bool.Decides.{nat_tests}
use Rattle.std.proofs.lemmas.Str.Parse.{IsNumeralModel, numerals_by_value, tells_all_ascii_digits}
use Rattle.mirror_run.specs.Script.{is_number, number_of}

-- decimal digits and their value, as std's lemmas on `parse` want them
pub numerals : IsNumeralModel (λ ds. all_ascii_digits ds ≡ true) (digits_value 10)
numerals = numerals_by_value (λ ds. all_ascii_digits ds ≡ true) tells_all_ascii_digits

-- digits that write a number of so many bits are a number
is_number_from : (bits : ℕ) (bs : List ℕ) → all_ascii_digits bs ≡ true → 0 < length bs →
    digits_value 10 bs < 2 ^ bits → is_number bits bs ≡ true
is_number_from bits bs digits some fits =
    let nonempty : not (length bs == 0) ≡ true = grind (arith, nat_tests) in
    let small : nat_lt (digits_value 10 bs) (2 ^ bits) ≡ true = grind (arith, nat_tests) in
    rw (digits, nonempty, small) refl

-- a number is made of digits, and fits its bits
number_facts : (bits : ℕ) (bs : List ℕ) → is_number bits bs ≡ true → (all_ascii_digits bs ≡ true)
    × (0 < length bs) × (digits_value 10 bs < 2 ^ bits)
number_facts bits bs h =
    let one = and_parts (all_ascii_digits bs) (not (length bs == 0) && nat_lt (digits_value 10 bs) (2 ^ bits))
    h in
    let two = and_parts (not (length bs == 0)) (nat_lt (digits_value 10 bs) (2 ^ bits)) one.1 in
    let nonempty : not (length bs == 0) ≡ true = two.0 in
    let small : nat_lt (digits_value 10 bs) (2 ^ bits) ≡ true = two.1 in
    (one.0, grind (arith, nat_tests), grind (arith, nat_tests))

-- what `parse` answered, where it read digits alone
pub number_read : {E : Type 0} (bits : ℕ) (bs : List ℕ) (r : Result ℕ E) →
    OkIff r ((all_ascii_digits bs ≡ true) × (0 < length bs) × (digits_value 10 bs < 2 ^ bits))
    (digits_value 10 bs) → result_ok r ≡ number_of bits bs
number_read bits bs (Ok x) h = ap Some h.1
    ∙ sym (cond-true (is_number bits bs) _ _ (is_number_from bits bs h.0.0 h.0.1 h.0.2))
number_read bits bs (Err e) h =
    cond_both (is_number bits bs) _ _ (λ o. None ≡ o) (λ q. absurd (h (number_facts bits bs q))) (λ q. refl)
