-- Bytes of which a front was written. The function that writes bytes cites these.
use Rattle.std.proofs.Common.{◌≡◌, ℕ, ◌∙◌, sym, ap, Option, List, [], ◌++◌, refl, append_assoc}
use Rattle.std.specs.Io.KnownBytes.{Keeps, Appends}
use Rattle.std.proofs.KnownBytes.{Appends-nil, Appends-trans, Appends-kept}
use Rattle.program_frame.specs.Whole.Output.{WritesUpTo, WritesFront}

-- at first nothing was
pub written_none : (a : Option (List ℕ)) (bytes : List ℕ) → WritesUpTo bytes a bytes a
written_none a bytes = record { front = []; written = Appends-nil a; split = refl }

-- a further front of the rest was
pub written_more : (a b c : Option (List ℕ)) (bytes rest more left : List ℕ) → rest ≡ more ++ left
    → WritesUpTo rest a bytes b → Appends b c more → WritesUpTo left a bytes c
written_more a b c bytes rest more left e p h = record {
  front = p.front ++ more;
  written = Appends-trans a b c p.front more p.written h;
  split = p.split ∙ ap (λ k. p.front ++ k) e ∙ sym (append_assoc p.front more left);
}

-- nothing further was
pub written_kept : (a b c : Option (List ℕ)) (bytes rest left : List ℕ) → left ≡ rest
    → WritesUpTo rest a bytes b → Keeps b c → WritesUpTo left a bytes c
written_kept a b c bytes rest left e p h = record {
  front = p.front;
  written = Appends-kept a b c p.front p.written h;
  split = p.split ∙ ap (λ k. p.front ++ k) (sym e);
}

-- nothing was written
pub front_none : (a : Option (List ℕ)) (bytes : List ℕ) → WritesFront a bytes a
front_none a bytes = record { rest = bytes; up_to = written_none a bytes }
