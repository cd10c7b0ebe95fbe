-- Updates of a listing: what becomes of some of its paths, and what comes at others.
use Rattle.std.specs.Prelude.{◌≡◌, Bool, true, false, not, List, [], ◌∷◌, Option, None, Some}
use Rattle.std.specs.List.Sorted.{IsStrictlySortedBy}
use Rattle.std.specs.Map.{keys_of, lookup, remove_entry, set_value}
use Rattle.std.specs.BTreeMap.{is_at, insert_entry}
use Rattle.notify_paths.specs.Path.{PathValue, path_cmp}
use Rattle.poll_listing.specs.declared.entry.Found.{Found}
use Rattle.poll_listing.specs.declared.updates.Update.{Update}
use Rattle.poll_listing.specs.declared.updates.Update.TheVariants.{Gone, Changed, Added}
use Rattle.poll_listing.specs.Listing.{ListingValue, IsListing, entry_at, has_entry}

-- what becomes of each path, in the paths' order
abbrev pub UpdatesValue : Type 0
UpdatesValue = List (PathValue × Update)

-- what becomes of the path, if the updates tell of it
abbrev pub update_at : UpdatesValue → PathValue → Option Update
update_at updates path = lookup (is_at (path_cmp path)) updates

-- what stands there after the update
abbrev pub found_after : Update → Option Found
found_after Gone = None
found_after (Changed found) = Some found
found_after (Added found) = Some found

-- what stands there after the update, if there is one, or else what stood there before
abbrev pub after : Option Update → Option Found → Option Found
after None before = before
after (Some update) before = found_after update

-- the listing after one update
abbrev pub updated_at : ListingValue → PathValue × Update → ListingValue
updated_at listing (path, Gone) = remove_entry (is_at (path_cmp path)) listing
updated_at listing (path, Changed found) = insert_entry path_cmp listing path found
updated_at listing (path, Added found) = insert_entry path_cmp listing path found

-- the listing after each of these steps
abbrev pub after_each : (ListingValue → PathValue × Update → ListingValue) → ListingValue → UpdatesValue →
    ListingValue
after_each step listing [] = listing
after_each step listing (update ∷ updates) = after_each step (step listing update) updates

-- the listing after the updates
abbrev pub updated : ListingValue → UpdatesValue → ListingValue
updated listing updates = after_each updated_at listing updates

-- an update adds a path that isn't there, and tells else of one that is
abbrev pub fits_at : Option Update → Bool → Bool
fits_at None there = true
fits_at (Some Gone) there = there
fits_at (Some (Changed found)) there = there
fits_at (Some (Added found)) there = not there

-- the updates are some of this listing, in their order, and lead to one
pub record IsUpdate (listing : ListingValue) (updates : UpdatesValue) : Type 0 where
  pub ordered : IsStrictlySortedBy path_cmp (keys_of updates)
  pub fits : (path : PathValue) → fits_at (update_at updates path) (has_entry listing path) ≡ true
  pub law : IsListing (updated listing updates)

-- the listing with what an update adds
abbrev pub added_at : ListingValue → PathValue × Update → ListingValue
added_at listing (path, Gone) = listing
added_at listing (path, Changed found) = listing
added_at listing (path, Added found) = insert_entry path_cmp listing path found

-- the listing without what an update adds
abbrev pub dropped_at : ListingValue → PathValue × Update → ListingValue
dropped_at listing (path, Gone) = listing
dropped_at listing (path, Changed found) = listing
dropped_at listing (path, Added found) = remove_entry (is_at (path_cmp path)) listing

-- the listing after an update that adds nothing
abbrev pub changed_at : ListingValue → PathValue × Update → ListingValue
changed_at listing (path, Gone) = remove_entry (is_at (path_cmp path)) listing
changed_at listing (path, Changed found) = set_value (is_at (path_cmp path)) listing found
changed_at listing (path, Added found) = listing

-- the path is added
abbrev pub is_added : Option Update → Bool
is_added None = false
is_added (Some Gone) = false
is_added (Some (Changed found)) = false
is_added (Some (Added found)) = true

-- the paths ascend, and where nothing is added, the second listing has what the first has
abbrev pub DifferInAdded : UpdatesValue → ListingValue → ListingValue → Type 0
DifferInAdded updates first second = IsStrictlySortedBy path_cmp (keys_of second)
    × ((path : PathValue) → is_added (update_at updates path) ≡ false → entry_at second path ≡ entry_at first path)
