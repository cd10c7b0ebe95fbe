use Rattle.std.proofs.Common.{◌≡◌, ◌≤◌, take, true}
use Rattle.std.specs.Map.{keys_of}
use Rattle.debounce_model.specs.Honest.{has_folders}
use Rattle.poll_rounds.proofs.RootLemmas.{IsOpenTo, HasFolders}
use Rattle.poll_rounds.proofs.walk.list_root.Given as goal

-- the folders above the next path are there, and the folders tell and count as before
abbrev pub invariant-loop-count : goal.invariant-loop-count
invariant-loop-count g l = record {
  passed : IsOpenTo (g.D.Folders.told l.fn.folders) l.mode l.root (g.L.Entries.entries l.fn.listing)
      (take l.count l.root);
  added : HasFolders (g.D.Folders.told l.fn.folders) l.mode l.root (g.L.Entries.entries l.fn.listing)
      (take l.count l.root) (g.L.Entries.entries l.listing);
  above : has_folders (keys_of (g.L.Entries.entries l.listing)) (take l.count l.root) ≡ true;
  last : g.L.Entries.last l.listing ≡ g.L.Entries.last l.fn.listing;
  same : g.D.Folders.told l.folders ≡ g.D.Folders.told l.fn.folders;
  counted : g.D.Folders.failed l.fn.folders ≤ g.D.Folders.failed l.folders;
}
