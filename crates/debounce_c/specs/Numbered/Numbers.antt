-- File numbers that a caller says, and what the core's calls make of them. Assumes nothing: these are definitions.
use Rattle.std.specs.Prelude.{◌≡◌, true, Option, List}
use Rattle.std.specs.Map.{lookup}
use Rattle.std.specs.BTreeMap.{insert_entry, is_at}
use Rattle.notify_paths.specs.Below.{without_at_or_below}
use Rattle.notify_paths.specs.Path.{PathValue, path_cmp}
use Rattle.debounce_model.specs.Cache.{CacheCall, AddPath, RemovePath, RescanRoots, Rules}
use Rattle.debounce_model.specs.State.{Core}
use Rattle.debounce_model.specs.declared.file_id.FileId.{FileId}

-- the paths that have a number, each with it
abbrev pub Numbers : Type 0
Numbers = List (PathValue × FileId)

-- the number of the path, if it has one
abbrev pub number_at : Numbers → PathValue → Option FileId
number_at numbers path = lookup (is_at (path_cmp path)) numbers

-- the numbers, with this one at the path
abbrev pub with_number : Numbers → PathValue → FileId → Numbers
with_number numbers path id = insert_entry path_cmp numbers path id

-- the numbers but those of the path and of what lies below it
abbrev pub without_numbers : Numbers → PathValue → Numbers
without_numbers numbers path = without_at_or_below numbers path

-- what a call leaves: a removal takes the numbers out, and a path that is added has the number that was said of it
abbrev pub leaves_numbers : Numbers → CacheCall → Numbers → Type 0
leaves_numbers c (AddPath path mode) d = d ≡ c
leaves_numbers c (RemovePath path) d = d ≡ without_numbers c path
leaves_numbers c (RescanRoots roots) d = d ≡ c

-- a cache of the numbers that its caller says; it refuses nothing
abbrev pub said_numbers : Rules Numbers
said_numbers = record {
  numbers = number_at;
  leaves = leaves_numbers;
  refused = λ c call d. ⊥;
  refuses_nothing =
      true;
}

-- a core with other numbers
abbrev pub with_numbers : Core Numbers → Numbers → Core Numbers
with_numbers core numbers = record core { cache = numbers }
