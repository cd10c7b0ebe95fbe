-- A garden, for a reader over the whole chain.
use Rattle.std.specs.Prelude.{ℕ, List, [], ◌∷◌, codes, unwrap_or}
use Rattle.notify_paths.specs.Path.{PathValue}
use Rattle.notify_paths.specs.PathText.{parts_of}
use Rattle.poll_listing.specs.Listing.{ListingValue, listing_of}
use Rattle.poll_listing.specs.declared.entry.EntryKind.{EntryKind}
use Rattle.poll_listing.specs.declared.entry.EntryKind.TheVariants.{File, Folder}

-- what stands in it: a bed, and a rose in the bed
abbrev pub garden : List (PathValue × EntryKind × ℕ)
garden =
    (parts_of (codes "garden"), Folder, 0) ∷ (parts_of (codes "garden/bed"), Folder, 0)
    ∷ (parts_of (codes "garden/bed/rose"), File, 3) ∷ []

-- the tree of these entries, if they make one
abbrev pub tree_of : List (PathValue × EntryKind × ℕ) → ListingValue
tree_of entries = unwrap_or (listing_of entries) []
