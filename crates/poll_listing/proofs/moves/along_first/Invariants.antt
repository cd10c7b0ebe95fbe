use Rattle.std.proofs.Common.{◌≡◌, drop}
use Rattle.poll_listing.specs.Tracked.{along_first}
use Rattle.poll_listing.proofs.moves.along_first.Given as goal

-- the folders that are left decide
abbrev pub invariant-loop-folder : goal.invariant-loop-folder
invariant-loop-folder g l = along_first l.last l.path l.found (drop l.folder-index l.folders)
    ≡ along_first l.last l.path l.found l.folders
