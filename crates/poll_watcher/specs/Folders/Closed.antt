-- What a failed call says of its path, and what is noted of it.
use Rattle.std.specs.Prelude.{◌≡◌, [], ◌∷◌, ◌++◌, Bool, Some, ◌⊎◌, if◌then◌else◌}
use Rattle.std.specs.List.{list_any}
use Rattle.std.specs.declared.io.ErrorKind.{ErrorKind}
use Rattle.std.specs.declared.io.ErrorKind.TheVariants.{NotADirectory, NotFound, OutOfMemory, PermissionDenied}
use Rattle.notify_paths.specs.Path.{PathValue, path_eq}
use Rattle.notify_paths.specs.PathMoves.{parent_of}
use Rattle.poll_rounds.specs.Closed.{ClosedValue}
use Rattle.poll_watcher.specs.declared.folders.closed.Failure.{Failure}
use Rattle.poll_watcher.specs.declared.folders.closed.Failure.TheVariants.{Closed, Missing, Refused}

-- by its cause, and by whether closed paths are noted: nothing stands there, it can't be looked at, or all is refused
abbrev pub failure_of : ErrorKind → Bool → Failure
failure_of NotFound noted = Missing
failure_of NotADirectory noted = Missing
failure_of OutOfMemory noted = Refused
failure_of PermissionDenied noted = if noted then Closed else Missing
failure_of cause noted = if noted then Closed else Refused

-- what is noted with one more closed path, once each
abbrev pub with_closed : ClosedValue → PathValue × ErrorKind → ClosedValue
with_closed closed one = if list_any (λ other. path_eq other.0 one.0) closed then closed else closed ++ one ∷ []

-- the path itself is closed, or the folder that it stands in
abbrev pub IsPlace : PathValue → PathValue → Type 0
IsPlace path place = (place ≡ path) ⊎ (parent_of path ≡ Some place)

-- the path is noted so, or the folder that it stands in
abbrev pub NotesPlace : PathValue → ErrorKind → ClosedValue → ClosedValue → Type 0
NotesPlace path cause old new = (place : PathValue) × IsPlace path place × (new ≡ with_closed old (place, cause))
