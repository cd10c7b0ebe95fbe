-- Where in a copy an action is carried out.
use Rattle.std.specs.Prelude.{◌≡◌, Bool, true, not, ◌&&◌, ◌==◌, ◌++◌, length, drop, Option, None, Some, if◌then◌else◌}
use Rattle.std.specs.List.{list_all}
use Rattle.notify_paths.specs.Path.{PathValue, is_prefix}
use Rattle.notify_paths.specs.PathMoves.{relocated}
use Rattle.poll_listing.specs.Near.{is_name_part}

-- the path lies at or below the original, which isn't empty, by names alone
abbrev pub is_inside : PathValue → PathValue → Bool
is_inside from path =
    not (length from == 0) && (is_prefix from path && list_all is_name_part (drop (length from) path))

-- the path in the copy that stands for this path of the original
abbrev pub target_of : PathValue → PathValue → PathValue → Option PathValue
target_of from to path = if is_inside from path then Some (relocated from to path) else None

-- a path of a copy: the copy's own and some names after it
abbrev pub IsInCopy : PathValue → PathValue → Type 0
IsInCopy to path = (names : PathValue) × (list_all is_name_part names ≡ true) × (path ≡ to ++ names)

-- a copy, and a path in it
pub record TargetValue : Type 0 where
  pub to : PathValue
  pub path : PathValue
