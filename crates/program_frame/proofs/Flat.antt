-- Fields hold no tab, no line feed and no carriage return. The function that appends fields cites these.
use Rattle.std.proofs.Common.{◌≡◌, ℕ, List, [], ◌∷◌, Bool, true, false, nat_eq, if◌then◌else◌, refl}
use Rattle.std.specs.List.{All}
use Rattle.std.proofs.lemmas.List.Elements.{All-nil, All-cons, All-append}
use Rattle.program_frame.specs.Fields.{escape_of, field_of, IsInField}

-- a backslash and a byte that may stand in a field
flat_pair : (byte : ℕ) → IsInField byte → All IsInField (92 ∷ byte ∷ [])
flat_pair byte p =
    All-cons IsInField 92 (byte ∷ []) (refl, (refl, refl)) (All-cons IsInField byte [] p (All-nil IsInField))

-- what a byte is written as holds none, by what the four tests say
flat_cases : (byte : ℕ) (t n r b : Bool) → nat_eq byte 9 ≡ t → nat_eq byte 10 ≡ n → nat_eq byte 13 ≡ r
    → All IsInField (if t then 92 ∷ 116 ∷ [] else (if n then 92 ∷ 110 ∷ [] else (if r then 92 ∷ 114 ∷ []
    else (if b then 92 ∷ 92 ∷ [] else byte ∷ []))))
flat_cases byte true n r b p q s = flat_pair 116 (refl, (refl, refl))
flat_cases byte false true r b p q s = flat_pair 110 (refl, (refl, refl))
flat_cases byte false false true b p q s = flat_pair 114 (refl, (refl, refl))
flat_cases byte false false false true p q s = flat_pair 92 (refl, (refl, refl))
flat_cases byte false false false false p q s = All-cons IsInField byte [] (p, (q, s)) (All-nil IsInField)

-- a field holds none
pub flat_field : (text : List ℕ) → All IsInField (field_of text)
flat_field [] = All-nil IsInField
flat_field (byte ∷ text) =
    All-append IsInField (escape_of byte) (field_of text)
    (flat_cases byte (nat_eq byte 9) (nat_eq byte 10) (nat_eq byte 13) (nat_eq byte 92) refl refl refl)
    (flat_field text)
