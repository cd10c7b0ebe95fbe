use Rattle.std.proofs.Common.{◌≡◌, ◌≤◌, ◌-◌, ◌||◌, true, take, IfSome, string_bytes}
use Rattle.std.specs.List.{list_any}
use Rattle.std.specs.BTreeMap.{is_at}
use Rattle.std.specs.Map.{keys_of}
use Rattle.debounce_model.specs.Honest.{has_folders}
use Rattle.notify_paths.specs.Path.{PathValue, path_cmp}
use Rattle.poll_rounds.specs.Folders.{Adds}
use Rattle.poll_rounds.proofs.ReachLemmas.{in_child}
use Rattle.poll_listing.specs.Listing.{has_entry}
use Rattle.poll_rounds.proofs.walk.+list_at.Given as goal

abbrev pub decreases-list_at : goal.decreases-list_at
decreases-list_at g l = l.depth

-- nothing is lost, the folder and those above it are there, and the folders tell and count as before
abbrev pub invariant-loop-name : goal.invariant-loop-name
invariant-loop-name g l = record {
  added : IfSome (g.D.Folders.told l.fn.folders) (λ tree. Adds tree (λ q. is_at (path_cmp q) l.path
      || list_any (λ name. in_child tree (l.depth - 1) l.path q (string_bytes name))
      (take l.name-index l.name-items)) (g.L.Entries.entries l.fn.listing) (g.L.Entries.entries l.listing));
  grows : (q : PathValue) → has_entry (g.L.Entries.entries l.fn.listing) q ≡ true →
      has_entry (g.L.Entries.entries l.listing) q ≡ true;
  here : has_entry (g.L.Entries.entries l.listing) l.path ≡ true;
  folders : has_folders (keys_of (g.L.Entries.entries l.listing)) l.path ≡ true;
  last : g.L.Entries.last l.listing ≡ g.L.Entries.last l.fn.listing;
  same : g.D.Folders.told l.folders ≡ g.D.Folders.told l.fn.folders;
  counted : g.D.Folders.failed l.fn.folders ≤ g.D.Folders.failed l.folders;
}
