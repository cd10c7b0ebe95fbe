-- What is written of a text that is written out now and then.
use Rattle.std.specs.Prelude.{◌≡◌, ℕ, Option, List, ◌++◌}
use Rattle.std.specs.Io.KnownBytes.{Appends}

-- a part of the text, and of these lines after it, was written, and the rest is the text now
pub record Prints (old : Option (List ℕ)) (text : List ℕ) (new : Option (List ℕ)) (rest : List ℕ)
    (lines : List ℕ) : Type 0 where
  pub written : List ℕ
  pub appended : Appends old new written
  pub split : text ++ lines ≡ written ++ rest

-- a beginning of the text, and of these lines after it, was written
pub record Begins (old : Option (List ℕ)) (text : List ℕ) (new : Option (List ℕ)) (lines : List ℕ) : Type 0
  where
    pub left : List ℕ
    pub prints : Prints old text new left lines
