use Rattle.std.proofs.Common.{◌≡◌, [], length}
use Rattle.std.specs.Vec.Iter.{into_iter_items, into_iter_len}
use Rattle.poll_listing.specs.Listing.{put_all}
use Rattle.poll_listing.proofs.listing.gather.Given as goal

-- what is gathered so far, and then the rest
abbrev pub invariant-loop-path : goal.invariant-loop-path
invariant-loop-path g l = record {
  gathered : put_all l.map.entries (into_iter_items l.path-iterator) ≡ put_all [] l.fn.entries.items;
  counted : length (into_iter_items l.path-iterator) ≡ into_iter_len l.path-iterator;
}
