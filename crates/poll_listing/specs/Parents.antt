-- The nearest folder of each path, which a look-up asks for. The clauses of functions inside this crate cite this.
use Rattle.std.specs.Prelude.{Bool, true, ◌&&◌, Option, None, Some}
use Rattle.std.specs.List.{list_all}
use Rattle.notify_paths.specs.Path.{PathValue}
use Rattle.notify_paths.specs.PathMoves.{parent_of}
use Rattle.debounce_model.specs.Play.{Paths, has_path}
use Rattle.poll_listing.specs.Listing.{is_nonempty}

-- the folder is among the paths, if there is one
abbrev pub has_this : Paths → Option PathValue → Bool
has_this paths None = true
has_this paths (Some folder) = has_path paths folder

-- the nearest folder above the path is among the paths, if there is one
abbrev pub has_parent : Paths → PathValue → Bool
has_parent paths path = has_this paths (parent_of path)

-- no path is empty, and the nearest folder of each is among all of them
abbrev pub have_parents : Paths → Paths → Bool
have_parents all paths = list_all (λ path. is_nonempty path && has_parent all path) paths
