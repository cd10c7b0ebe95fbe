-- Equality of errors. Each test decides whether two values are one (`ErrorLaws`).
use Rattle.std.specs.Prelude.{Bool, true, false, ◌&&◌}
use Rattle.std.specs.Cmp.Lexicographic.{pointwise}
use Rattle.std.specs.Str.{bytes_eq}
use Rattle.std.specs.declared.io.ErrorKind.{ErrorKind}
use Rattle.std.specs.contracts.io.ErrorKind.{the_type}
use denote.Enum.Bare.{sameb}
use Rattle.notify_paths.specs.Errors.{ErrorKindValue, ErrorValue, GenericKind, IoKind, PathNotFoundKind, WatchNotFoundKind, FullKind, MemoryKind}
use Rattle.notify_paths.specs.Path.{path_eq}

-- std's kinds of errors are the same
abbrev pub io_kind_eq : ErrorKind → ErrorKind → Bool
io_kind_eq = sameb the_type

-- the same went wrong, with the same text
abbrev pub error_kind_eq : ErrorKindValue → ErrorKindValue → Bool
error_kind_eq (GenericKind x) (GenericKind y) = bytes_eq x y
error_kind_eq (IoKind x) (IoKind y) = io_kind_eq x y
error_kind_eq PathNotFoundKind PathNotFoundKind = true
error_kind_eq WatchNotFoundKind WatchNotFoundKind = true
error_kind_eq FullKind FullKind = true
error_kind_eq MemoryKind MemoryKind = true
error_kind_eq _ _ = false

-- the same went wrong at the same paths
abbrev pub error_eq : ErrorValue → ErrorValue → Bool
error_eq a b = error_kind_eq a.kind b.kind && pointwise path_eq a.paths b.paths
