-- Bytes that are a text, and bytes that aren't.
use Rattle.std.proofs.Common.{◌≡◌, ℕ, Bool, true, false, List, refl}
use Rattle.std.specs.Str.{IsUtf8, is_utf8}
use Rattle.std.proofs.lemmas.Str.{IsUtf8-from_is_utf8}

-- bytes that aren't UTF-8 don't pass the test
pub not_text : (bytes : List ℕ) → ¬ (IsUtf8 bytes) → false ≡ is_utf8 bytes
not_text bytes h = by (is_utf8 bytes) refl
  where
    by : (b : Bool) → is_utf8 bytes ≡ b → false ≡ b
    by true e = absurd (h (IsUtf8-from_is_utf8 bytes e))
    by false e = refl
