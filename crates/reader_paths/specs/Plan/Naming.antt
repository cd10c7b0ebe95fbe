-- Events that say only where to look, and removals.
use Rattle.std.specs.Prelude.{Bool, List, [], ◌∷◌, ◌++◌, Option, None, Some, is_some, if◌then◌else◌}
use Rattle.notify_paths.specs.Path.{PathValue, is_prefix}
use Rattle.notify_types.specs.Event.{Timed, no_attributes}
use Rattle.notify_types.specs.declared.kind.EventKind.{EventKind}
use Rattle.notify_types.specs.declared.kind.EventKind.TheVariants.{Any, Remove}
use Rattle.notify_types.specs.declared.kind.RemoveKind.TheVariants as removals
use Rattle.poll_listing.specs.Listing.{ListingValue, entry_at}
use Rattle.reader_paths.specs.Plan.Target.{target_of}

-- an event of this kind at the path
abbrev pub naming_as : EventKind → PathValue → Timed
naming_as kind path = record { event = record { kind = kind; paths = path ∷ []; attrs = no_attributes }; time = 0 }

-- an event that names the path and says nothing of it
abbrev pub naming : PathValue → Timed
naming path = naming_as Any path

-- an event that says that the path was removed
abbrev pub removing : PathValue → Timed
removing path = naming_as (Remove removals.Any) path

-- an event that has the path looked at again: one that names it if it is wanted, and else its removal
abbrev pub naming_again : PathValue → Bool → Timed
naming_again path is_wanted = if is_wanted then naming path else removing path

-- the events of the paths of the listing at or below the folder, in their order
abbrev pub namings : PathValue → ListingValue → List Timed
namings folder [] = []
namings folder (entry ∷ listing) =
    if is_prefix folder entry.0 then naming entry.0 ∷ namings folder listing else namings folder listing

-- the removal of the path, if it is one and the original has nothing there
abbrev pub naming_beside : ListingValue → Option PathValue → List Timed
naming_beside original None = []
naming_beside original (Some path) = if is_some (entry_at original path) then [] else removing path ∷ []

-- the removals of the paths of the original at which its copy has something, and it has nothing
abbrev pub namings_beside : ListingValue → PathValue → PathValue → ListingValue → List Timed
namings_beside original from to [] = []
namings_beside original from to (entry ∷ copied) =
    naming_beside original (target_of to from entry.0) ++ namings_beside original from to copied
