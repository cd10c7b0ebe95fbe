use Rattle.std.proofs.Common.{◌≡◌, ◌≤◌, take}
use Rattle.poll_rounds.proofs.RootLemmas.{HasListed}
use Rattle.poll_rounds.proofs.walk.list_roots.Given as goal

-- the folders tell and count as before
abbrev pub invariant-loop-root : goal.invariant-loop-root
invariant-loop-root g l = record {
  listed : HasListed (g.D.Folders.told l.fn.folders) (take l.root-index l.roots) (g.L.Entries.entries l.listing);
  last : g.L.Entries.last l.listing ≡ g.L.Entries.last l.fn.listing;
  same : g.D.Folders.told l.folders ≡ g.D.Folders.told l.fn.folders;
  counted : g.D.Folders.failed l.fn.folders ≤ g.D.Folders.failed l.folders;
}
