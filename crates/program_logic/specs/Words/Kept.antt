-- An index that follows what is reported: what batches and looks make of it.
use Rattle.std.specs.Prelude.{◌≡◌, Bool, true, false, List, [], ◌∷◌, ◌++◌, None, Ok, Err, is_some, map}
use Rattle.std.specs.List.{list_any}
use Rattle.std.specs.Map.{keys_of}
use Rattle.std.specs.declared.alloc.Global.{Global}
use Rattle.notify_paths.specs.Path.{PathValue}
use Rattle.notify_types.specs.Event.{EventValue, Timed}
use Rattle.notify_watch.specs.Handler.{Outcome}
use Rattle.debounce_model.specs.Play.{Paths, events_of}
use Rattle.poll_listing.specs.Listing.{ListingValue}
use Rattle.reader_paths.specs.Plan.Naming.{naming, namings}
use Rattle.reader_paths.specs.Plan.{is_named, wanted}
use Rattle.program_logic.specs.Words.Index.{Documents, IndexValue, IsExact, IsIndexAfter, StaysExact, read_at}

-- what may be read at paths
abbrev pub Readings : Type 1
Readings = Paths → IndexValue → Type 0

-- what stands at the paths that the events want was read, and the index is the one after the events; one of just the
-- documents that stood is one of just those that remain
abbrev pub Takes : Readings → List EventValue → IndexValue → IndexValue → Type 0
Takes readings events old new =
    (read : IndexValue) × readings (wanted events) read × IsIndexAfter read events old new
    × StaysExact read events old new

-- the index is that of just these documents, whatever it was: at each path that an event names first remains what was
-- read there, if the events want the path, and no document stands elsewhere
abbrev pub BecomesExact : IndexValue → List EventValue → IndexValue → Type 0
BecomesExact read events new = (after : Documents) →
    ((path : PathValue) → is_named events path ≡ true → read_at read events path ≡ after path) →
    ((path : PathValue) → is_named events path ≡ false → after path ≡ None) → IsExact after new

-- what stands at the paths that the events want was read, and the index is the one after the events, and no longer
-- stands on what was known before
abbrev pub TakesAnew : Readings → List EventValue → IndexValue → IndexValue → Type 0
TakesAnew readings events old new =
    (read : IndexValue) × readings (wanted events) read × IsIndexAfter read events old new
    × BecomesExact read events new

-- the events by which all is read anew: they name each path that the index has, and then what these events do
abbrev pub anew : IndexValue → List Timed → List EventValue
anew index listed = events_of (map naming (keys_of index) ++ listed)

-- an event asks to read all anew
abbrev pub asks_anew : List Timed → Bool
asks_anew batch = list_any (λ x. is_some x.event.attrs.flag) batch

-- if that is asked for, what the index had and what a listing of the folder names was read anew
abbrev pub ReadsAnewIf : Bool → Readings → PathValue → IndexValue → IndexValue → Type 0
ReadsAnewIf false readings folder old new = new ≡ old
ReadsAnewIf true readings folder old new =
    (listing : ListingValue) × TakesAnew readings (anew old (namings folder listing)) old new

-- the batch was taken, and then all was read anew, if an event of it asks for that
abbrev pub TakesBatch : Readings → PathValue → List Timed → IndexValue → IndexValue → Type 0
TakesBatch readings folder batch old new = (between : IndexValue) × Takes readings (events_of batch) old between
    × ReadsAnewIf (asks_anew batch) readings folder between new

-- each batch of the reports was taken, in order; errors change nothing
abbrev pub TakesEach : Readings → PathValue → List (Outcome Global) → IndexValue → IndexValue → Type 0
TakesEach readings folder [] old new = new ≡ old
TakesEach readings folder (Ok batch ∷ reports) old new = (next : IndexValue)
    × TakesBatch readings folder batch.items old next × TakesEach readings folder reports next new
TakesEach readings folder (Err errors ∷ reports) old new = TakesEach readings folder reports old new

-- these paths were read again, unless there are none
abbrev pub ReadsAgain : Readings → Paths → IndexValue → IndexValue → Type 0
ReadsAgain readings [] old new = new ≡ old
ReadsAgain readings (path ∷ paths) old new = Takes readings (events_of (map naming (path ∷ paths))) old new

-- what was reported was taken, and what was missing then was read again
abbrev pub CatchesUp : Readings → PathValue → IndexValue → IndexValue → Type 0
CatchesUp readings folder old new =
    (reports : List (Outcome Global)) × (between : IndexValue) × (missing : Paths)
    × TakesEach readings folder reports old between × ReadsAgain readings missing between new
