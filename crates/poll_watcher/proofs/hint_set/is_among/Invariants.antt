use Rattle.std.proofs.Common.{◌≡◌, drop}
use Rattle.poll_watcher.specs.HintSet.Hints.{is_among}
use Rattle.poll_watcher.proofs.hint_set.is_among.Given as goal

-- the paths that are left decide
abbrev pub invariant-loop-kept : goal.invariant-loop-kept
invariant-loop-kept g l = is_among (drop l.kept-index l.paths) l.path ≡ is_among l.paths l.path
