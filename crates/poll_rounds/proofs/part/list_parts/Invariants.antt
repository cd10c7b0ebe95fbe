use Rattle.std.proofs.Common.{◌≡◌, ◌≤◌, take, true}
use Rattle.std.specs.Map.{keys_of}
use Rattle.debounce_model.specs.Honest.{has_folders}
use Rattle.poll_rounds.proofs.PartLemmas.{HasParts}
use Rattle.poll_rounds.proofs.part.list_parts.Given as goal

-- the folders above the path are there, and the folders tell and count as before
abbrev pub invariant-loop-root : goal.invariant-loop-root
invariant-loop-root g l = record {
  added : HasParts (g.D.Folders.told l.fn.folders) l.path (take l.root-index l.roots) (g.L.Entries.entries l.fn.listing)
      (g.L.Entries.entries l.listing);
  above : has_folders (keys_of (g.L.Entries.entries l.listing)) l.path ≡ true;
  last : g.L.Entries.last l.listing ≡ g.L.Entries.last l.fn.listing;
  same : g.D.Folders.told l.folders ≡ g.D.Folders.told l.fn.folders;
  counted : g.D.Folders.failed l.fn.folders ≤ g.D.Folders.failed l.folders;
}
