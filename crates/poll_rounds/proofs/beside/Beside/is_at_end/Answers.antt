use Rattle.std.proofs.Common.{subst}
use Rattle.poll_listing.specs.Listing.{IsListing}
use Rattle.poll_rounds.specs.Beside.{put_in}
use Rattle.poll_rounds.proofs.beside.Beside.is_at_end.Goals as goal

pub returns-clause-law : goal.returns-clause-law
returns-clause-law g c = subst (λ v. IsListing (put_in v)) c.self.view_is c.self.invariant.put
