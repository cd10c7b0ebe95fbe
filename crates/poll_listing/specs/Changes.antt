-- What changed between two listings, as events.
use Rattle.std.specs.Prelude.{◌≡◌, ℕ, Bool, true, false, not, ◌&&◌, ◌==◌, List, [], ◌∷◌, ◌++◌, map, filter, Option, None, Some}
use Rattle.std.specs.List.{list_any}
use Rattle.notify_types.specs.Event.{EventValue, no_attributes}
use Rattle.notify_paths.specs.Path.{PathValue, is_prefix, is_below}
use Rattle.notify_types.specs.declared.kind.EventKind.{EventKind}
use Rattle.notify_types.specs.declared.kind.EventKind.TheVariants as kind
use Rattle.notify_types.specs.declared.kind.CreateKind.TheVariants as create
use Rattle.notify_types.specs.declared.kind.ModifyKind.TheVariants as modify
use Rattle.notify_types.specs.declared.kind.DataChange.TheVariants as change
use Rattle.notify_types.specs.declared.kind.RemoveKind.TheVariants as remove
use Rattle.debounce_model.specs.Play.{Paths, play}
use Rattle.debounce_model.specs.Honest.{is_closed, are_honest}
use Rattle.poll_listing.specs.declared.entry.EntryKind.{EntryKind}
use Rattle.poll_listing.specs.declared.entry.EntryKind.TheVariants.{File, Folder, Other}
use Rattle.poll_listing.specs.declared.entry.FileNumber.{FileNumber}
use Rattle.poll_listing.specs.declared.entry.FileNumber.TheVariants.{Unknown, Known}
use Rattle.poll_listing.specs.declared.entry.Found.{Found}
use Rattle.poll_listing.specs.Listing.{ListingValue, entry_at, has_entry, is_same_kind}

-- something of this kind is there
abbrev pub is_of_kind : EntryKind → Option Found → Bool
is_of_kind kind None = false
is_of_kind kind (Some found) = is_same_kind kind found.kind

-- the two times are the same, or neither is known
abbrev pub is_same_time : Option ℕ → Option ℕ → Bool
is_same_time None None = true
is_same_time None (Some after) = false
is_same_time (Some before) None = false
is_same_time (Some before) (Some after) = before == after

-- the two numbers are the same, or neither is known
abbrev pub is_same_number : FileNumber → FileNumber → Bool
is_same_number Unknown Unknown = true
is_same_number Unknown (Known device file) = false
is_same_number (Known device file) Unknown = false
is_same_number (Known device file) (Known other_device other_file) =
    (device == other_device) && (file == other_file)

-- the two have the same length, the same modified time and the same number
abbrev pub is_same_state : Found → Found → Bool
is_same_state before after = (before.length == after.length)
    && (is_same_time before.modified after.modified && is_same_number before.number after.number)

-- something is there, and its length, its modified time or its number is another
abbrev pub is_rewritten : Found → Option Found → Bool
is_rewritten before None = false
is_rewritten before (Some after) = not (is_same_state before after)

-- the new listing has the path of the entry, with its kind
abbrev pub is_kept : ListingValue → PathValue × Found → Bool
is_kept new entry = is_of_kind entry.1.kind (entry_at new entry.0)

-- the old entries whose paths the new listing lacks, or has with another kind
abbrev pub gone : ListingValue → ListingValue → ListingValue
gone old new = filter (λ e. not (is_kept new e)) old

-- the path lies at or below the path of one of the entries
abbrev pub lies_in : ListingValue → PathValue → Bool
lies_in entries path = list_any (λ e. is_prefix e.0 path) entries

-- the path lies strictly below the path of one of the entries
abbrev pub lies_below : ListingValue → PathValue → Bool
lies_below entries path = list_any (λ e. is_below path e.0) entries

-- the old entries that lie in nothing that is gone
abbrev pub staying : ListingValue → ListingValue → ListingValue
staying old new = filter (λ e. not (lies_in (gone old new) e.0)) old

-- of what is gone, what lies below nothing that is gone
abbrev pub removed : ListingValue → ListingValue → ListingValue
removed old new = filter (λ e. not (lies_below (gone old new) e.0)) (gone old new)

-- the new entries whose paths did not stay
abbrev pub created : ListingValue → ListingValue → ListingValue
created old new = filter (λ e. not (has_entry (staying old new) e.0)) new

-- the entries that stay and whose length, modified time or number is another now
abbrev pub rewritten : ListingValue → ListingValue → ListingValue
rewritten old new = filter (λ e. is_rewritten e.1 (entry_at new e.0)) (staying old new)

-- the kind of event that tells of a removal
abbrev pub removal_of : EntryKind → EventKind
removal_of File = kind.Remove remove.File
removal_of Folder = kind.Remove remove.Folder
removal_of Other = kind.Remove remove.Other

-- the kind of event that tells of a creation
abbrev pub creation_of : EntryKind → EventKind
creation_of File = kind.Create create.File
creation_of Folder = kind.Create create.Folder
creation_of Other = kind.Create create.Other

-- the kind of event that tells of another length, modified time or number
abbrev pub rewriting : EventKind
rewriting = kind.Modify (modify.Data change.Any)

-- an event of this kind at the path, and nothing else
abbrev pub event_at : EventKind → PathValue → EventValue
event_at kind path = record { kind = kind; paths = path ∷ []; attrs = no_attributes }

-- the event that tells of the entry's removal
abbrev pub removal : PathValue × Found → EventValue
removal entry = event_at (removal_of entry.1.kind) entry.0

-- the event that tells of the entry's creation
abbrev pub creation : PathValue × Found → EventValue
creation entry = event_at (creation_of entry.1.kind) entry.0

-- the event that tells that the entry was rewritten
abbrev pub rewrite : PathValue × Found → EventValue
rewrite entry = event_at rewriting entry.0

-- all changes: removals, creations and what was rewritten, each in the order of their paths
abbrev pub changes : ListingValue → ListingValue → List EventValue
changes old new = map removal (removed old new)
    ++ (map creation (created old new) ++ map rewrite (rewritten old new))

-- from the old paths on the events are honest, and played on them they leave the new paths
pub record LeadsTo (old new : Paths) (events : List EventValue) : Type 0 where
  pub closed : is_closed old ≡ true
  pub honest : are_honest old events ≡ true
  pub played : play old events ≡ new
