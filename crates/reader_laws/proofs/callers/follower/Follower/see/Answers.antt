-- What changed up to the listing is taken.
use Rattle.std.proofs.Common.{subst}
use Rattle.poll_listing.specs.Listing.{IsListing}
use Rattle.reader_laws.proofs.CallersLemmas.Following.{followed_more}
use Rattle.reader_laws.proofs.callers.follower.Follower.see.Goals as goal

pub invariant_of-result : goal.invariant_of-result
invariant_of-result g c =
    let listing = subst IsListing c.next.view_is c.next.invariant in
    followed_more c.self.inside.core c.take_all.new.core c.self.inside.last c.args.next c.self.inside.reader c.args.now
    c.self.invariant listing (rw (← c.in_ok-events.ensures.ok) c.in_ok-take_all.ensures.ok)
