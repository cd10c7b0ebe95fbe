use Rattle.std.proofs.Common.{◌≡◌, true}
use Rattle.std.specs.List.{AllByRecursion}
use Rattle.std.specs.Map.{keys_of}
use Rattle.debounce_model.specs.Play.{has_path}
use Rattle.document_index.specs.Read.{IsReadAmong}
use Rattle.document_index.proofs.documents.Documents.read_all.Given as goal

-- nothing was read yet but at these paths, and the paths that are left are some of them
abbrev pub invariant-loop-path : goal.invariant-loop-path
invariant-loop-path g l =
    IsReadAmong (keys_of l.paths.entries) l.read.entries
    × AllByRecursion (λ p. has_path (keys_of l.paths.entries) p ≡ true) l.path-iterator
