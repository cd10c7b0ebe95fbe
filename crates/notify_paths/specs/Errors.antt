-- Errors as values.
use Rattle.std.specs.Prelude.{ℕ, List, []}
use Rattle.std.specs.declared.io.ErrorKind.{ErrorKind}
use Rattle.notify_paths.specs.Path.{PathValue}

-- what went wrong
pub data ErrorKindValue : Type 0 where
  GenericKind : (text : List ℕ) → ErrorKindValue
  IoKind : (kind : ErrorKind) → ErrorKindValue
  PathNotFoundKind : ErrorKindValue
  WatchNotFoundKind : ErrorKindValue
  FullKind : ErrorKindValue
  MemoryKind : ErrorKindValue

-- an error: what went wrong, and at which paths
pub record ErrorValue : Type 0 where
  pub kind : ErrorKindValue
  pub paths : List PathValue

-- an allocation failed
abbrev pub out_of_memory : ErrorValue
out_of_memory = record { kind = MemoryKind; paths = [] }
