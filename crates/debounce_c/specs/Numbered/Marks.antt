-- Numbers of which some are taken out, until they are dropped or brought back. Assumes nothing: these are definitions.
use Rattle.std.specs.Prelude.{◌≡◌, Bool, true, false, not, List, [], ◌∷◌, map, filter, if◌then◌else◌}
use Rattle.std.specs.BTreeMap.{insert_entry}
use Rattle.notify_paths.specs.Path.{PathValue, path_cmp, is_prefix}
use Rattle.debounce_model.specs.Cache.{CacheCall, AddPath, RemovePath, RescanRoots, Rules}
use Rattle.debounce_model.specs.State.{Core}
use Rattle.debounce_model.specs.declared.file_id.FileId.{FileId}
use Rattle.debounce_c.specs.declared.numbered.table.Marked.{Marked}
use Rattle.debounce_c.specs.Numbered.Numbers.{Numbers, number_at}

-- the paths that have a number, each with it, and with whether it is taken out
abbrev pub Marks : Type 0
Marks = List (PathValue × Marked)

-- the numbers, also those that are taken out
abbrev pub numbers_of : Marks → Numbers
numbers_of marks = map (λ e. (e.0, e.1.id)) marks

-- a number that is not taken out
abbrev pub is_there : PathValue × Marked → Bool
is_there e = not e.1.is_gone

-- none is taken out
abbrev pub IsNoneGone : Marks → Type 0
IsNoneGone [] = Unit {0}
IsNoneGone (e ∷ marks) = (e.1.is_gone ≡ false) × IsNoneGone marks

-- the numbers, with this one at the path, which is not taken out
abbrev pub with_mark : Marks → PathValue → FileId → Marks
with_mark marks path id = insert_entry path_cmp marks path (record { id = id; is_gone = false })

-- a number at the key, taken out if that lies at the path or below it
abbrev pub gone_at : PathValue → PathValue → Marked → Marked
gone_at path key m = if is_prefix path key then record m { is_gone = true } else m

-- those at the path and below it are taken out
abbrev pub marked : PathValue → Marks → Marks
marked path marks = map (λ e. (e.0, gone_at path e.0 e.1)) marks

-- what was taken out is dropped
abbrev pub settled : Marks → Marks
settled marks = filter is_there marks

-- what was taken out is there again
abbrev pub restored : Marks → Marks
restored marks = map (λ e. (e.0, record e.1 { is_gone = false })) marks

-- what a call leaves: a removal takes numbers out
abbrev pub leaves_marks : Marks → CacheCall → Marks → Type 0
leaves_marks c (AddPath path mode) d = d ≡ c
leaves_marks c (RemovePath path) d = d ≡ marked path c
leaves_marks c (RescanRoots roots) d = d ≡ c

-- a table of numbers: of a path it also tells the one that is taken out
abbrev pub table_rules : Rules Marks
table_rules = record {
  numbers = λ c path. number_at (numbers_of c) path;
  leaves = leaves_marks;
  refused = λ c call d. ⊥;
  refuses_nothing =
      true;
}

-- a core with a table of numbers, as a core with the numbers that its caller says
abbrev pub said_core : Core Marks → Core Numbers
said_core core = record {
  state = core.state;
  cache = numbers_of core.cache;
  answer = core.answer;
  visited = core.visited;
}

-- a core with another table
abbrev pub with_table : Core Marks → Marks → Core Marks
with_table core marks = record core { cache = marks }
