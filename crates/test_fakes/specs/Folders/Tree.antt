-- The names in a folder of a tree, as a walk over the tree finds them. The clauses of functions inside this crate
-- cite this.
use Rattle.std.specs.Prelude.{ℕ, List, [], ◌∷◌, Option, Some, None, length, drop, if◌then◌else◌}
use Rattle.notify_paths.specs.Path.{PathValue, PartValue, NamePart, is_prefix}

-- the one part, if there is one and it is a name
abbrev pub only_name : List PartValue → Option (List ℕ)
only_name (NamePart name ∷ []) = Some name
only_name parts = None

-- the name of what stands at the path, if it stands in the folder and has one
abbrev pub name_in : PathValue → PathValue → Option (List ℕ)
name_in folder path = if is_prefix folder path then only_name (drop (length folder) path) else None
