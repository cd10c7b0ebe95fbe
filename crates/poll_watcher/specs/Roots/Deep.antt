-- Folders that lie so deep below a watched path that nothing looks into them.
use Rattle.std.specs.Prelude.{ℕ, zero, suc, Bool, true, false, not, ◌&&◌, List, length, drop, filter, Option, None, Some, if◌then◌else◌}
use Rattle.std.specs.List.{list_any}
use Rattle.notify_paths.specs.Path.{PathValue, is_prefix}
use Rattle.notify_types.specs.declared.event.RecursiveMode.{RecursiveMode}
use Rattle.notify_types.specs.declared.event.RecursiveMode.TheVariants.{Recursive}
use Rattle.poll_listing.specs.Listing.{ListingValue, is_same_kind}
use Rattle.poll_listing.specs.Near.{depth_of, levels_left}
use Rattle.poll_listing.specs.declared.entry.EntryKind.TheVariants.{Folder}

-- how many levels below the path are looked at for the root, if the path lies there
abbrev pub levels_below : PathValue × RecursiveMode → PathValue → Option ℕ
levels_below root path =
    if is_prefix root.0 path then levels_left (depth_of root.1) (drop (length root.0) path) else None

-- levels are left, so a folder is looked into
abbrev pub goes_on : Option ℕ → Bool
goes_on None = false
goes_on (Some zero) = false
goes_on (Some (suc levels)) = true

-- no level is left, of all that a root has that is watched with what lies below it
abbrev pub ends : RecursiveMode → Option ℕ → Bool
ends Recursive (Some zero) = true
ends mode levels = false

-- a root's look ends at the path, and no root's goes on
abbrev pub is_end : List (PathValue × RecursiveMode) → PathValue → Bool
is_end roots path = list_any (λ root. ends root.1 (levels_below root path)) roots
    && not (list_any (λ root. goes_on (levels_below root path)) roots)

-- the folders of the listing that aren't looked into, since they lie so deep
abbrev pub too_deep : List (PathValue × RecursiveMode) → ListingValue → ListingValue
too_deep roots listing = filter (λ entry. is_same_kind Folder entry.1.kind && is_end roots entry.0) listing
