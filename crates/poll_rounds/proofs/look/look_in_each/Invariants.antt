use Rattle.std.proofs.Common.{[], ◌≡◌, ◌≤◌, drop}
use Rattle.poll_listing.specs.Listing.{ListingValue}
use Rattle.poll_rounds.specs.Parts.{LooksEach}
use Rattle.poll_rounds.specs.Beside.{put_in}
use Rattle.poll_rounds.proofs.look.look_in_each.Given as goal

-- looks at the paths that are left make looks at all, and the folders tell and count as before
abbrev pub invariant-loop-path : goal.invariant-loop-path
invariant-loop-path g l = record {
  shown : (end : ListingValue) →
      LooksEach (g.D.Folders.told l.fn.folders) l.roots (drop l.path-index l.paths) (put_in l.listing) end →
      LooksEach (g.D.Folders.told l.fn.folders) l.roots l.paths (put_in l.fn.listing) end;
  left : l.listing.left ≡ [];
  last : l.listing.last ≡ l.fn.listing.last;
  same : g.D.Folders.told l.folders ≡ g.D.Folders.told l.fn.folders;
  counted : g.D.Folders.failed l.fn.folders ≤ g.D.Folders.failed l.folders;
}
