use Rattle.std.proofs.Common.{◌≡◌, drop}
use Rattle.std.specs.List.{list_any}
use Rattle.notify_paths.specs.Path.{path_eq}
use Rattle.poll_watcher.proofs.folders.closed.is_noted.Given as goal

-- the noted paths that are left decide
abbrev pub invariant-loop-other : goal.invariant-loop-other
invariant-loop-other g l =
    list_any (λ other. path_eq other.0 l.path) (drop l.other-index l.closed)
    ≡ list_any (λ other. path_eq other.0 l.path) l.closed
