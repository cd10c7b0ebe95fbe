-- What an error of the code is.
use Rattle.std.specs.String.{string_bytes}
use Rattle.notify_paths.specs.declared.error.ErrorKind.{ErrorKind}
use Rattle.notify_paths.specs.declared.error.ErrorKind.TheVariants.{Generic, Io, PathNotFound, WatchNotFound, Full, Memory}
use Rattle.notify_paths.specs.Errors.{ErrorKindValue, GenericKind, IoKind, PathNotFoundKind, WatchNotFoundKind, FullKind, MemoryKind}

-- the kind of an error of the code as a value
abbrev pub kind_value : {Z : Type 0} → ErrorKind Z → ErrorKindValue
kind_value (Generic text) = GenericKind (string_bytes text)
kind_value (Io kind) = IoKind kind
kind_value PathNotFound = PathNotFoundKind
kind_value WatchNotFound = WatchNotFoundKind
kind_value Full = FullKind
kind_value Memory = MemoryKind
