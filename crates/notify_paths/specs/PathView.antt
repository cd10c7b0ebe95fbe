-- The part that a component is, and what hashing a path writes.
use Rattle.std.specs.Hash as fed
use Rattle.std.specs.Path.{component_bytes}
use Rattle.std.specs.declared.path.components.Component.{Component}
use Rattle.std.specs.Path.{components_remaining}
use Rattle.std.specs.Prelude.{List, map}
use Rattle.notify_paths.specs.declared.part.FoldersAbove.{FoldersAbove}
use Rattle.notify_paths.specs.declared.part.Part.{Part}
use Rattle.notify_paths.specs.declared.part.Part.TheVariants.{Root, Cur, Parent, Name}
use Rattle.notify_paths.specs.declared.part.Parts.{Parts}
use Rattle.notify_paths.specs.Path.{PartValue, RootPart, CurPart, ParentPart, NamePart, PathValue, path_eq}
use Rattle.notify_paths.specs.PathMoves.{folders_above}
use Rattle.notify_paths.specs.PathLaws.{path_eq_decides}
use Rattle.notify_paths.specs.PathText.{part_of, text_of}

-- the part that a component is
abbrev pub component_part : Component → PartValue
component_part component = part_of (component_bytes component)

-- the value of a part
abbrev pub part_value : Part → PartValue
part_value Root = RootPart
part_value Cur = CurPart
part_value Parent = ParentPart
part_value (Name name) = NamePart name.now

-- the parts that are left
abbrev pub parts_left : Parts → PathValue
parts_left parts = map part_of (components_remaining parts.components)

-- the folders that are left
abbrev pub folders_left : FoldersAbove → List PathValue
folders_left folders = folders_above (map part_of (components_remaining folders.components))

-- what hashing a path writes: its text
abbrev pub path_feed : PathValue → fed.HashWrites
path_feed path = fed.str (text_of path)

-- equal paths hash alike
pub path_alike : fed.Alike path_eq path_feed
path_alike = fed.same_Alike path_feed path_eq_decides
