-- The place of a file: the folder to watch, and the file as events name it.
use Rattle.std.specs.Prelude.{◌≡◌, ◌⊎◌, ℕ, List, None, Some, codes}
use Rattle.notify_paths.specs.Path.{PathValue}
use Rattle.notify_paths.specs.PathMoves.{child_of, parent_of}
use Rattle.notify_paths.specs.PathText.{parts_of}

-- the file is the text's path, in the folder that this names; or the text is a name in the current folder
abbrev pub IsPlaceOf : List ℕ → PathValue → PathValue → Type 0
IsPlaceOf text folder file =
    ((file ≡ parts_of text) × (parent_of file ≡ Some folder))
    ⊎ ((folder ≡ parts_of (codes ".")) × (child_of folder text ≡ Some file))

-- the text's path has no folder above it, and isn't a name in the current folder either
abbrev pub HasNoPlace : List ℕ → Type 0
HasNoPlace text =
    (parent_of (parts_of text) ≡ None) × (child_of (parts_of (codes ".")) text ≡ None)
