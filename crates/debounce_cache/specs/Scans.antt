-- Scans for the numbers of files.
use Rattle.std.specs.Prelude.{Bool, List, ⊤}
use Rattle.notify_paths.specs.Path.{PathValue}
use Rattle.debounce_model.specs.declared.file_id.FileId.{FileId}

-- paths, each with the number of the file there
abbrev pub Pairs : Type 0
Pairs = List (PathValue × FileId)

-- what a type of scans says of itself: the pairs that the last scan found; and what a scan of a path that
-- succeeds leaves, with all that lies below the path or with its direct entries alone
pub record ScanRules (S : Type 0) : Type 1 where
  pub found : S → Pairs
  pub leaves : S → PathValue → Bool → S → Type 0

-- scans of which nothing is said but the pairs that they found
abbrev pub some_scans : {S : Type 0} → (S → Pairs) → ScanRules S
some_scans found = record { found = found; leaves = λ s path recursive t. ⊤ }
