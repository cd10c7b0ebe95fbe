use Rattle.std.proofs.Common.{◌≡◌, length}
use Rattle.std.specs.List.{list_all}
use Rattle.notify_paths.specs.PathMoves.{folders_above}
use Rattle.debounce_model.specs.Play.{has_path}
use Rattle.reader_paths.proofs.HonestLemmas.{folders_from}
use Rattle.reader_paths.proofs.path_set.PathSet.holds_folders.Given as goal

-- the folders that are left decide whether all are there
abbrev pub invariant-loop-next : goal.invariant-loop-next
invariant-loop-next g l = list_all (has_path l.self) (folders_from l.next)
    ≡ list_all (has_path l.self) (folders_above l.path)

abbrev pub decreases-loop-next : goal.decreases-loop-next
decreases-loop-next g l = length (folders_from l.next)
