use Rattle.listing_looks.proofs.LookerLemmas.{unsaid_looker}
use Rattle.listing_looks.proofs.looker.Looker.begin.Goals as goal

pub invariant_of-self : goal.invariant_of-self
invariant_of-self g c =
    unsaid_looker _ c.self.invariant.known c.self.invariant.handed c.new.ensures.items c.new-2.ensures.empty
