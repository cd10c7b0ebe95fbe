use Rattle.std.proofs.Common.{◌≡◌, ◌≤◌, take}
use Rattle.poll_rounds.proofs.PartLemmas.{PassesTo}
use Rattle.poll_rounds.proofs.part.is_open.Given as goal

-- the folders above the next path can be passed, and the folders tell and count as before
abbrev pub invariant-loop-count : goal.invariant-loop-count
invariant-loop-count g l = record {
  passed : PassesTo (g.D.Folders.told l.fn.folders) l.root l.path (take l.count l.path);
  same : g.D.Folders.told l.folders ≡ g.D.Folders.told l.fn.folders;
  counted : g.D.Folders.failed l.fn.folders ≤ g.D.Folders.failed l.folders;
}
