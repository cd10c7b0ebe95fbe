-- Listings: what stands at each path of some folders, at one moment.
use Rattle.std.specs.Prelude.{◌≡◌, Bool, true, false, ◌&&◌, ℕ, List, [], ◌∷◌, Option, None, Some, if◌then◌else◌}
use Rattle.std.specs.List.{list_all}
use Rattle.std.specs.List.Sorted.{IsStrictlySortedBy}
use Rattle.std.specs.Map.{keys_of, lookup}
use Rattle.std.specs.BTreeMap.{is_at, insert_entry}
use Rattle.notify_paths.specs.Path.{PathValue, path_cmp}
use Rattle.debounce_model.specs.Play.{has_path}
use Rattle.debounce_model.specs.Honest.{has_folders, is_closed}
use Rattle.poll_listing.specs.declared.entry.EntryKind.{EntryKind}
use Rattle.poll_listing.specs.declared.entry.EntryKind.TheVariants.{File, Folder, Other}
use Rattle.poll_listing.specs.declared.entry.FileNumber.TheVariants.{Unknown}
use Rattle.poll_listing.specs.declared.entry.Found.{Found}

-- what stands at each path, in the paths' order
abbrev pub ListingValue : Type 0
ListingValue = List (PathValue × Found)

-- what stands at the path
abbrev pub entry_at : ListingValue → PathValue → Option Found
entry_at listing path = lookup (is_at (path_cmp path)) listing

-- something stands at the path
abbrev pub has_entry : ListingValue → PathValue → Bool
has_entry listing path = has_path (keys_of listing) path

-- whether two kinds are the same
abbrev pub is_same_kind : EntryKind → EntryKind → Bool
is_same_kind File File = true
is_same_kind Folder Folder = true
is_same_kind Other Other = true
is_same_kind a b = false

-- the path has a part
abbrev pub is_nonempty : PathValue → Bool
is_nonempty [] = false
is_nonempty (part ∷ parts) = true

-- what stands there, of which no modified time and no number is known
abbrev pub untimed : EntryKind → ℕ → Found
untimed kind length = record { kind = kind; length = length; modified = None; number = Unknown }

-- the entries are put in one after the other, so that a later one of a path wins
abbrev pub put_all : ListingValue → List (PathValue × EntryKind × ℕ) → ListingValue
put_all listing [] = listing
put_all listing (entry ∷ entries) =
    put_all (insert_entry path_cmp listing entry.0 (untimed entry.1 entry.2)) entries

-- no path is empty, and the folders of each are there
abbrev pub is_listing : ListingValue → Bool
is_listing listing = list_all (λ path. is_nonempty path && has_folders (keys_of listing) path) (keys_of listing)

-- the listing that the entries make, if they make one
abbrev pub listing_of : List (PathValue × EntryKind × ℕ) → Option ListingValue
listing_of entries = if is_listing (put_all [] entries) then Some (put_all [] entries) else None

-- what the last entry of the path says, or else what is known before
abbrev pub last_or : Option Found → List (PathValue × EntryKind × ℕ) → PathValue → Option Found
last_or known [] path = known
last_or known (entry ∷ entries) path =
    last_or (if is_at (path_cmp path) entry.0 then Some (untimed entry.1 entry.2)
    else known) entries path

-- at each path there is what its last entry says, and nothing if it has none
abbrev pub HasLast : List (PathValue × EntryKind × ℕ) → ListingValue → Type 0
HasLast entries listing = (path : PathValue) → entry_at listing path ≡ last_or None entries path

-- the paths ascend, none is empty, and each nonempty proper prefix of a path is a path of the listing too
pub record IsListing (listing : ListingValue) : Type 0 where
  pub ordered : IsStrictlySortedBy path_cmp (keys_of listing)
  pub nonempty : list_all is_nonempty (keys_of listing) ≡ true
  pub closed : is_closed (keys_of listing) ≡ true
