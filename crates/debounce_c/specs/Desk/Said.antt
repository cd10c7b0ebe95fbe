-- What C says of an event and of an error, as the core takes it. Assumes nothing: these are definitions.
use Rattle.std.specs.Prelude.{ℕ, ◌==◌, Bool, false, List, [], ◌∷◌, ◌++◌, nat_lt, slice_index_or, Option, None, Some, if◌then◌else◌}
use Rattle.std.specs.declared.io.ErrorKind.TheVariants as io
use Rattle.notify_paths.specs.Errors.{ErrorKindValue, ErrorValue, GenericKind, IoKind, PathNotFoundKind, WatchNotFoundKind}
use Rattle.notify_paths.specs.Path.{PathValue}
use Rattle.notify_paths.specs.PathText.{parts_of}
use Rattle.notify_types.specs.declared.event.Flag.{Flag}
use Rattle.notify_types.specs.declared.event.Flag.TheVariants as flag
use Rattle.notify_types.specs.declared.event.RecursiveMode.{RecursiveMode}
use Rattle.notify_types.specs.declared.event.RecursiveMode.TheVariants as mode
use Rattle.notify_types.specs.declared.kind.EventKind.{EventKind}
use Rattle.notify_types.specs.declared.kind.EventKind.TheVariants as kind
use Rattle.notify_types.specs.Event.{EventValue}
use Rattle.notify_types.specs.Kinds.{kinds}
use Rattle.debounce_model.specs.declared.file_id.FileId.{FileId}
use Rattle.debounce_c.specs.declared.desk.records.Attributes.{Attributes}
use Rattle.debounce_c.specs.declared.desk.records.Change.{Change}

-- the kind of this number; of no kind's number it is Any
abbrev pub kind_of : ℕ → EventKind
kind_of number = slice_index_or kinds number kind.Any

-- the mode that C means
abbrev pub mode_of : Bool → RecursiveMode
mode_of recursive = if recursive then mode.Recursive else mode.NonRecursive

-- the path of a text, if there is one
abbrev pub path_if : Bool → List ℕ → List PathValue
path_if there text = if there then parts_of text ∷ [] else []

-- a number, if there is one
abbrev pub number_if : Bool → ℕ → Option ℕ
number_if there number = if there then Some number else None

-- a text, if there is one
abbrev pub text_if : Bool → List ℕ → Option (List ℕ)
text_if there text = if there then Some text else None

-- the flag, if it is set
abbrev pub flag_if : Bool → Option Flag
flag_if set = if set then Some flag.Rescan else None

-- the event that C means
abbrev pub event_of : Change → Attributes → List ℕ → List ℕ → List ℕ → List ℕ → EventValue
event_of c a first second info source = record {
  kind = kind_of c.kind;
  paths = path_if (nat_lt 0 c.paths) first ++ path_if (nat_lt 1 c.paths) second;
  attrs = record {
    tracker = number_if c.tracked c.tracker;
    flag = flag_if c.rescan;
    info = text_if a.has_info info;
    source = text_if a.has_source source;
    process_id = number_if a.has_process a.process;
  };
}

-- the kind of an error by its number; a text is that of a generic one
abbrev pub error_kind_of : ℕ → List ℕ → ErrorKindValue
error_kind_of number text =
    if number == 0 then GenericKind text
    else (if number == 1 then IoKind io.Other
    else (if number == 2 then PathNotFoundKind
    else WatchNotFoundKind))

-- the error that C means
abbrev pub error_of : ℕ → Bool → List ℕ → List ℕ → ErrorValue
error_of number has_path text path = record { kind = error_kind_of number text; paths = path_if has_path path }

-- the file number that C means
abbrev pub id_of : ℕ → ℕ → FileId
id_of device inode = record { device = device; number = inode }

-- no further attributes
abbrev pub no_attributes : Attributes
no_attributes = record { has_info = false; has_source = false; has_process = false; process = 0 }
