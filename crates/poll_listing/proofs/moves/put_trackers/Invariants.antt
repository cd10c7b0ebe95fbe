use Rattle.std.proofs.Common.{◌≡◌, ◌++◌, drop, length}
use Rattle.std.specs.Vec.Iter.{into_iter_items, into_iter_len}
use Rattle.poll_listing.specs.Tracked.{put_trackers}
use Rattle.poll_listing.proofs.moves.put_trackers.Given as goal

-- the events so far, and then those that are left with the places that are left
abbrev pub invariant-loop-event : goal.invariant-loop-event
invariant-loop-event g l = record {
  put : l.told.items ++ put_trackers l.first (drop (length l.told.items) l.places) (into_iter_items l.event-iterator)
      ≡ put_trackers l.first l.places l.fn.events.items;
  counted : length (into_iter_items l.event-iterator) ≡ into_iter_len l.event-iterator;
}
