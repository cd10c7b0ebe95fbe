-- Paths made from others: one at another place, one with a name after it, and the folders above one.
use Rattle.std.specs.Prelude.{◌≡◌, ◌≢◌, ◌↔◌, MatchOption, ℕ, zero, suc, ◌-◌, true, List, [], ◌∷◌, ◌++◌, length, take, drop, Option, None, Some, option_and_then, slice_get, if◌then◌else◌}
use Rattle.std.specs.List.{Contains}
use Rattle.std.specs.Path.{path_bytes}
use Rattle.std.specs.declared.path.Path as std_path
use Rattle.notify_paths.specs.Path.{PartValue, PathValue, NamePart, is_below}
use Rattle.notify_paths.specs.PathText.{parts_of, is_proper_name}

-- a path that lies at or below `from`, at the same place below `to`
abbrev pub relocated : PathValue → PathValue → PathValue → PathValue
relocated from to path = to ++ drop (length from) path

-- the path with the name after it, if it is a name
abbrev pub child_of : PathValue → List ℕ → Option PathValue
child_of path name = if is_proper_name name then Some (path ++ NamePart name ∷ []) else None

-- the name that a part is, if it is one
abbrev pub name_of : PartValue → Option (List ℕ)
name_of (NamePart bytes) = Some bytes
name_of part = None

-- the last part, if it is a name
abbrev pub file_name_of : PathValue → Option (List ℕ)
file_name_of path = option_and_then name_of (slice_get path (length path - 1))

-- the first n parts, the first n - 1 of them, .. and the first
abbrev pub first_parts : ℕ → PathValue → List PathValue
first_parts zero path = []
first_parts (suc n) path = take (suc n) path ∷ first_parts n path

-- the folders above a path, the nearest first: what the path begins with, except itself and the empty path
abbrev pub folders_above : PathValue → List PathValue
folders_above path = first_parts (length path - 1) path

-- the nearest folder above a path
abbrev pub nearest : List PathValue → Option PathValue
nearest [] = None
nearest (folder ∷ folders) = Some folder

-- the path without its last part, if it has another
abbrev pub parent_of : PathValue → Option PathValue
parent_of path = nearest (folders_above path)

-- the next of these folders, and then those above it
abbrev pub IsNextFolder : List PathValue → Option PathValue → Type 0
IsNextFolder folders next = MatchOption next (folders ≡ []) (λ folder. folders ≡ folder ∷ folders_above folder)

-- they are the paths that the path lies below, without the empty path
abbrev pub AreFoldersAbove : PathValue → List PathValue → Type 0
AreFoldersAbove path folders = (f : PathValue) → Contains folders f ↔ ((is_below path f ≡ true) × (f ≢ []))

-- the path that a path of std is
abbrev pub folder_value : std_path.Path → PathValue
folder_value folder = parts_of (path_bytes folder)
