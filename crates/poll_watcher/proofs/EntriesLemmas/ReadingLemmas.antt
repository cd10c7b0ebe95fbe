-- Names that are added read by read.
use Rattle.std.proofs.Common.{◌∙◌, sym, ap, subst, arith, ℕ, ◌≤◌, List, [], ◌∷◌, ◌++◌, Option, append-nil}
use Rattle.std.specs.Prelude.{flat_map}
use Rattle.std.specs.Io.KnownBytes.{Consumes, Keeps}
use Rattle.std.proofs.KnownBytes.{Consumes-nil, Consumes-trans, Consumes-kept}
use Rattle.std.proofs.lemmas.Grind.{flat_map-append}
use Rattle.poll_watcher.specs.Entries.Names.{AddsNames, names_in}
use Rattle.poll_watcher.proofs.EntriesLemmas.NameLemmas.{adds_none, adds_both}

-- the reads so far gave what is no longer left of the bytes, and their names were added
pub record Reading (known left : Option (List ℕ)) (texts : List (List ℕ)) (l m : ℕ) : Type 0 where
  pub reads : List (List ℕ)
  pub given : Consumes known left (flat_map (λ read. read) reads)
  pub added : AddsNames (flat_map names_in reads) [] texts l m
  pub counted : l ≤ m

-- at first there was none
pub reading_none : (known : Option (List ℕ)) (l : ℕ) → Reading known known [] l l
reading_none known l = record {
  reads = [];
  given = Consumes-nil known;
  added = adds_none [] l;
  counted = omega arith;
}

-- one read more
pub reading_more : (known left now : Option (List ℕ)) (read : List ℕ) (a b : List (List ℕ)) (l m n : ℕ)
    → Reading known left a l m → Consumes left now read → AddsNames (names_in read) a b m n → m ≤ n
    → Reading known now b l n
reading_more known left now read a b l m n so_far given added counted = record {
  reads = so_far.reads ++ read ∷ [];
  given = subst (λ bytes. Consumes known now bytes)
      (ap (λ bytes. flat_map (λ read. read) so_far.reads ++ bytes) (sym (append-nil read))
      ∙ sym (flat_map-append (λ read. read) so_far.reads (read ∷ [])))
      (Consumes-trans known left now _ read so_far.given given);
  added = subst (λ names. AddsNames names [] b l n)
      (ap (λ names. flat_map names_in so_far.reads ++ names) (sym (append-nil (names_in read)))
      ∙ sym (flat_map-append names_in so_far.reads (read ∷ [])))
      (adds_both _ _ [] a b l m n so_far.added added);
  counted = omega (arith, counted, so_far.counted);
}

-- a read that was interrupted gave nothing
pub reading_kept : (known left now : Option (List ℕ)) (texts : List (List ℕ)) (l m : ℕ) → Reading known left texts l m
    → Keeps left now → Reading known now texts l m
reading_kept known left now texts l m so_far kept = record {
  reads = so_far.reads;
  given = Consumes-kept known left now _ so_far.given kept;
  added = so_far.added;
  counted = so_far.counted;
}
