-- A listing that is completed by another one.
use Rattle.std.specs.Prelude.{◌≡◌, [], ◌∷◌}
use Rattle.std.specs.Option.{option_or}
use Rattle.std.specs.BTreeMap.{insert_entry}
use Rattle.notify_paths.specs.Path.{PathValue, path_cmp}
use Rattle.poll_listing.specs.Listing.{ListingValue, entry_at}

-- at each path there is what the first listing has, or else what the other one has
abbrev pub IsMerged : ListingValue → ListingValue → ListingValue → Type 0
IsMerged first other merged = (path : PathValue) → entry_at merged path
    ≡ option_or (entry_at first path) (entry_at other path)

-- the entries are put in one after the other
abbrev pub put_over : ListingValue → ListingValue → ListingValue
put_over under [] = under
put_over under (entry ∷ entries) = put_over (insert_entry path_cmp under entry.0 entry.1) entries
