-- What is read of documents.
use Rattle.std.specs.Prelude.{◌≡◌, ◌⊎◌, true}
use Rattle.std.specs.BTreeMap.{insert_entry}
use Rattle.std.specs.List.{All}
use Rattle.std.specs.Map.{keys_of}
use Rattle.notify_paths.specs.Path.{PathValue, path_cmp}
use Rattle.debounce_model.specs.Play.{Paths, has_path}
use Rattle.program_logic.specs.Words.Index.{IndexValue}
use Rattle.program_logic.specs.Words.{WordsValue}

-- nothing was read but at these paths
abbrev pub IsReadAmong : Paths → IndexValue → Type 0
IsReadAmong paths read = All (λ path. has_path paths path ≡ true) (keys_of read)

-- what was read at the path was put in, or nothing was
abbrev pub PutsAt : PathValue → IndexValue → IndexValue → Type 0
PutsAt path old new = (new ≡ old) ⊎ ((words : WordsValue) × (new ≡ insert_entry path_cmp old path words))
