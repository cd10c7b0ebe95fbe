use Rattle.std.proofs.Common.{subst}
use Rattle.poll_listing.specs.Listing.{IsListing}
use Rattle.poll_rounds.proofs.RootLemmas.{listed-shown}
use Rattle.poll_rounds.proofs.walk.list.Goals as goal

pub returns-clause-shown : goal.returns-clause-shown
returns-clause-shown g c =
    listed-shown (g.D.Folders.told c.args.folders.now) c.args.roots.now c.list_roots.new.listing
    (subst IsListing c.listing.view_is c.listing.invariant) c.in_ok-list_roots.ensures.added
