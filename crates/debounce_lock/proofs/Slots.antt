-- What came out of a slot, and what was put in.
use Rattle.std.proofs.Common.{◌≡◌, List, [], ◌∷◌, ◌++◌, sym, ap, ◌∙◌, refl}

module _ {T : Type 0} where
  -- into what nothing was put nothing lies, and nothing came out
  pub none_out : (out held : List T) → out ++ held ≡ [] → out ≡ []
  none_out [] held e = refl
  none_out (x ∷ out) held e = absurd (cc)

  -- .. so the first value put in is all that was
  pub puts_first : (out log : List T) (value : T) → out ≡ [] → log ≡ [] → out ++ value ∷ [] ≡ log ++ value ∷ []
  puts_first out log value none_came nothing = ap (λ l. l ++ value ∷ []) (none_came ∙ sym nothing)
