-- The form of many words.
use Rattle.std.proofs.Common.{◌≡◌, ◌≤◌, ℕ, List, [], ◌∷◌, map, length, get_or, ap, arith, sym}
use Rattle.mirror_run.specs.Usage.{form_of, threads_form}

-- the form of four words or more is that of scripts in threads, or none
pub form_of-many : {X : Type 0} (text : X → List ℕ) (words : List X) (word : X) → 4 ≤ length words →
    word ≡ get_or words 0 word → form_of (map text words) ≡ threads_form (text word)
form_of-many text [] word long is = absurd (omega arith)
form_of-many text (a ∷ []) word long is = absurd (omega arith)
form_of-many text (a ∷ b ∷ []) word long is = absurd (omega arith)
form_of-many text (a ∷ b ∷ c ∷ []) word long is = absurd (omega arith)
form_of-many text (a ∷ b ∷ c ∷ d ∷ words) word long is = ap (λ (w : _). threads_form (text w)) (sym is)
