-- What a walk finds, beside the last listing. The clauses of functions inside this crate cite this.
use Rattle.std.specs.Prelude.{◌≡◌, Bool, true, false, not, [], ◌∷◌, None, filter}
use Rattle.std.specs.Ordering.{is_lt}
use Rattle.std.specs.List.Sorted.{IsStrictlySortedBy}
use Rattle.std.specs.Map.{keys_of}
use Rattle.notify_paths.specs.Path.{PathValue, is_prefix, path_cmp}
use Rattle.poll_listing.specs.Listing.{ListingValue, IsListing, entry_at, has_entry}
use Rattle.poll_listing.specs.Updates.{UpdatesValue, fits_at, update_at, updated}

-- the last listing, those of its entries that are looked at anew and weren't passed yet, and what differs elsewhere
pub record BesideValue : Type 0 where
  pub last : ListingValue
  pub left : ListingValue
  pub updates : UpdatesValue

-- the entries of the last listing without those that are left
abbrev pub without : ListingValue → ListingValue → ListingValue
without last left = filter (λ entry. not (has_entry left entry.0)) last

-- the entries that were put in
abbrev pub put_in : BesideValue → ListingValue
put_in beside = updated (without beside.last beside.left) beside.updates

-- the first of the entries stands before the path
abbrev pub begins_before : ListingValue → PathValue → Bool
begins_before [] path = false
begins_before (entry ∷ entries) path = is_lt (path_cmp entry.0 path)

-- the entries at and below the path
abbrev pub within : ListingValue → PathValue → ListingValue
within entries path = filter (λ entry. is_prefix path entry.0) entries

-- what is left is a part of the last listing, in order; the updates are in order, tell nothing of what is left, and
-- add just what the last listing lacks; and what was put in is a listing
pub record IsBeside (beside : BesideValue) : Type 0 where
  pub law : IsListing beside.last
  pub sorted : IsStrictlySortedBy path_cmp (keys_of beside.left)
  pub part : (path : PathValue) → has_entry beside.left path ≡ true → entry_at beside.left path
      ≡ entry_at beside.last path
  pub ordered : IsStrictlySortedBy path_cmp (keys_of beside.updates)
  pub apart : (path : PathValue) → has_entry beside.left path ≡ true → update_at beside.updates path ≡ None
  pub fits : (path : PathValue) → fits_at (update_at beside.updates path) (has_entry beside.last path) ≡ true
  pub put : IsListing (put_in beside)
