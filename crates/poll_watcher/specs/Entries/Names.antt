-- The names in a folder. What an open folder reads as has a zero byte after each name.
use Rattle.std.specs.Prelude.{ℕ, ◌≡◌, ◌+◌, ◌-◌, ◌^◌, ◌==◌, ◌||◌, ◌++◌, ◌<◌, min, Bool, not, List, [], filter, flat_map, length, codes}
use Rattle.std.specs.List.{slice_split}
use Rattle.std.specs.Str.{bytes_eq, is_utf8}

-- a name is an entry's unless it is empty, or that of the folder itself or of the one above
abbrev pub is_entry : List ℕ → Bool
is_entry name = not ((length name == 0) || (bytes_eq name (codes ".") || bytes_eq name (codes "..")))

-- the names of the entries in the bytes, in their order
abbrev pub names_in : List ℕ → List (List ℕ)
names_in bytes = filter is_entry (slice_split (λ byte. byte == 0) bytes)

-- to the texts before come those names that are text, and the others are counted, as far as can be counted
pub record AddsNames (names texts_before texts_after : List (List ℕ)) (left_before left_after : ℕ) : Type 0 where
  pub texts : texts_after ≡ texts_before ++ filter is_utf8 names
  pub left_out : left_before < 2 ^ 64 →
      left_after ≡ min (left_before + length (filter (λ name. not (is_utf8 name)) names)) (2 ^ 64 - 1)

-- some reads give all of the bytes, and the names of each are added to none
pub record ReadsNames (bytes : List ℕ) (texts : List (List ℕ)) (left_before left_after : ℕ) : Type 0 where
  pub reads : List (List ℕ)
  pub whole : flat_map (λ read. read) reads ≡ bytes
  pub added : AddsNames (flat_map names_in reads) [] texts left_before left_after
