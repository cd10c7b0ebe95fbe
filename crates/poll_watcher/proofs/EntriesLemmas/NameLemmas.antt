-- Names that are added one after the other, and read by read.
use Rattle.std.proofs.Common.{◌≡◌, ◌∙◌, refl, sym, ap, arith, ℕ, ◌+◌, ◌-◌, ◌^◌, min, Bool, true, false, List, [], ◌∷◌, ◌++◌, length, append_assoc, append-nil, cond, subst, ⊎_elim, ◌≤◌, ◌==◌, Option, Some, None, ltb}
use Rattle.std.specs.Prelude.{filter, not}
use Rattle.std.specs.List.{after_first, before_first, position_or_len, slice_split}
use Rattle.std.specs.Str.{is_utf8}
use Rattle.std.specs.Str.{IsUtf8}
use Rattle.std.proofs.lemmas.Str.{IsUtf8-from_is_utf8}
use Rattle.std.proofs.lemmas.Bool.{false_from_ne_true, cases_lt}
use Rattle.std.proofs.lemmas.List.Elements.{filter-append, All-from_get_or}
use Rattle.std.proofs.lemmas.List.Sums.{fails_before_first, prefix_len-le-length}
use Rattle.std.proofs.lemmas.Bool.Decides.{nat_tests}
use Rattle.std.specs.Option.{unwrap_or}
use Rattle.std.proofs.lemmas.List.Splits.{slice_split_first, slice_split_none}
use Rattle.std.proofs.lemmas.List.{length-append, take_all, drop_all}
use Rattle.poll_watcher.specs.Entries.Names.{AddsNames, is_entry, names_in}

-- what is no text fails the test
pub fails_test : (name : List ℕ) → (IsUtf8 name → ⊥) → is_utf8 name ≡ false
fails_test name never = false_from_ne_true (is_utf8 name) (λ is. never (IsUtf8-from_is_utf8 name is))

-- what is no text
abbrev is_other : List ℕ → Bool
is_other name = not (is_utf8 name)

-- no names add nothing
pub adds_none : (texts : List (List ℕ)) (left : ℕ) → AddsNames [] texts texts left left
adds_none texts left = record {
  texts = sym (append-nil texts);
  left_out = λ fits. omega (arith, fits);
}

-- a text comes last
pub adds_text : (name : List ℕ) (texts : List (List ℕ)) (left : ℕ) → is_utf8 name ≡ true
    → AddsNames (name ∷ []) texts (texts ++ name ∷ []) left left
adds_text name texts left is = record {
  texts = rw is refl;
  left_out = λ fits. rw is (omega (arith, fits));
}

-- another name is counted
pub counts_other : (name : List ℕ) (texts : List (List ℕ)) (left : ℕ) → is_utf8 name ≡ false
    → AddsNames (name ∷ []) texts texts left (min (left + 1) (2 ^ 64 - 1))
counts_other name texts left is = record {
  texts = rw is (sym (append-nil texts));
  left_out = λ fits. rw is refl;
}

-- some names are added, and then others
pub adds_both : (xs ys a b c : List (List ℕ)) (l m n : ℕ) → AddsNames xs a b l m → AddsNames ys b c m n
    → AddsNames (xs ++ ys) a c l n
adds_both xs ys a b c l m n first second = record {
  texts = second.texts ∙ ap (λ texts. texts ++ filter is_utf8 ys) first.texts
      ∙ append_assoc a (filter is_utf8 xs) (filter is_utf8 ys)
      ∙ ap (λ texts. a ++ texts) (sym (filter-append is_utf8 xs ys));
  left_out = λ fits.
      let count = ap length (filter-append is_other xs ys) ∙ length-append (filter is_other xs) (filter is_other ys) in
      let middle = first.left_out fits in
      let end = second.left_out (omega (arith, middle)) in
      omega (arith, count, middle, end);
}

-- an entry's name is added
pub adds_entry : (name : List ℕ) (a b : List (List ℕ)) (l m : ℕ) → is_entry name ≡ true
    → AddsNames (name ∷ []) a b l m → AddsNames (filter is_entry (name ∷ [])) a b l m
adds_entry name a b l m is added = subst (λ test. AddsNames (cond test (name ∷ []) []) a b l m) (sym is) added

-- another name isn't
pub adds_others : (name : List ℕ) (texts : List (List ℕ)) (left : ℕ) → is_entry name ≡ false
    → AddsNames (filter is_entry (name ∷ [])) texts texts left left
adds_others name texts left is =
    subst (λ test. AddsNames (cond test (name ∷ []) []) texts texts left left) (sym is) (adds_none texts left)

-- a byte that ends a name
abbrev pub is_end : ℕ → Bool
is_end byte = byte == 0

-- where no byte ends a name, all of the bytes are one
names_in-one : (bytes : List ℕ) → length bytes ≤ position_or_len is_end bytes
    → names_in bytes ≡ filter is_entry (before_first is_end bytes ∷ []) ++ names_in (after_first is_end bytes)
names_in-one bytes none =
    let fails = All-from_get_or (λ byte. is_end byte ≡ false) bytes 0
    (λ i within. fails_before_first is_end bytes i 0 (omega (arith, within, none))) in
    rw (
      slice_split_none is_end bytes fails,
      take_all (position_or_len is_end bytes) bytes none,
      drop_all (position_or_len is_end bytes + 1) bytes (omega (arith, none)),
    )
    (sym (append-nil (filter is_entry (bytes ∷ []))))

-- the names are the first one, if it is an entry's, and those after it
names_in-first : (bytes : List ℕ)
    → names_in bytes ≡ filter is_entry (before_first is_end bytes ∷ []) ++ names_in (after_first is_end bytes)
names_in-first bytes = ⊎_elim
    (λ found. ap (filter is_entry) (slice_split_first is_end bytes 0 found)
    ∙ filter-append is_entry (before_first is_end bytes ∷ []) (slice_split is_end (after_first is_end bytes)))
    (λ none. names_in-one bytes none)
    (cases_lt (position_or_len is_end bytes) (length bytes))

-- of the bytes some names were added, and what is left has the others
pub record Adding (bytes rest : List ℕ) (before texts : List (List ℕ)) (l m : ℕ) : Type 0 where
  pub names : List (List ℕ)
  pub added : AddsNames names before texts l m
  pub all : names_in bytes ≡ names ++ names_in rest
  pub counted : l ≤ m

-- at first none were
pub adding_none : (bytes : List ℕ) (texts : List (List ℕ)) (left : ℕ) → Adding bytes bytes texts texts left left
adding_none bytes texts left = record {
  names = [];
  added = adds_none texts left;
  all = refl;
  counted = omega arith;
}

-- one more was looked at
pub adding_more : (bytes rest name after : List ℕ) (a b c : List (List ℕ)) (l m n : ℕ) → Adding bytes rest a b l m
    → name ≡ before_first is_end rest → after ≡ after_first is_end rest
    → AddsNames (filter is_entry (name ∷ [])) b c m n → m ≤ n → Adding bytes after a c l n
adding_more bytes rest name after a b c l m n so_far is_name is_after added counted = record {
  names = so_far.names ++ filter is_entry (name ∷ []);
  added = adds_both _ _ a b c l m n so_far.added added;
  all = so_far.all ∙ ap (λ names. so_far.names ++ names) (names_in-first rest)
      ∙ rw (is_name, is_after) (sym (append_assoc so_far.names (filter is_entry (before_first is_end rest ∷ []))
      (names_in (after_first is_end rest))));
  counted = omega (arith, counted, so_far.counted);
}

-- all were
pub adding_all : (bytes : List ℕ) (a b : List (List ℕ)) (l m : ℕ) → Adding bytes [] a b l m
    → AddsNames (names_in bytes) a b l m
adding_all bytes a b l m done =
    rw (done.all ∙ append-nil done.names) done.added

-- how many bytes come before the end of the name, by the answer of a search
pub length_from : (bytes : List ℕ) (place : Option ℕ) (length_of : ℕ)
    → place ≡ cond (ltb (position_or_len is_end bytes) (length bytes)) (Some (position_or_len is_end bytes)) None
    → length_of ≡ unwrap_or place (length bytes) → length_of ≡ position_or_len is_end bytes
length_from bytes place length_of found is =
    let within = prefix_len-le-length (λ byte. not (is_end byte)) bytes in
    is ∙ rw found (grind (arith, nat_tests, within))
