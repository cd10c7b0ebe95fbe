-- Paths that are read again. The function that reads what was missing cites this.
use Rattle.std.proofs.Common.{◌≡◌, List, [], ◌∷◌, false, length, map, true≢false}
use Rattle.std.specs.Prelude.{◌==◌}
use Rattle.std.specs.Map.{keys_of}
use Rattle.notify_paths.specs.Path.{PathValue}
use Rattle.debounce_model.specs.Play.{events_of}
use Rattle.reader_paths.specs.Plan.Naming.{naming}
use Rattle.program_logic.specs.Words.Index.{IndexValue}
use Rattle.program_logic.specs.Words.Kept.{Readings, ReadsAgain, Takes}

-- if there are some, a batch that names them was taken
pub read_some : {V : Type 0} (readings : Readings) (paths : List (PathValue × V)) (old new : IndexValue)
    → (length paths == 0) ≡ false → Takes readings (events_of (map naming (keys_of paths))) old new
    → ReadsAgain readings (keys_of paths) old new
read_some readings [] old new some taken = absurd (true≢false some)
read_some readings (entry ∷ paths) old new some taken = taken
