use Rattle.std.proofs.Common.{◌∙◌, ap, sym, None}
use Rattle.std.specs.Map.Iter.{deref_pair}
use Rattle.std.specs.Option.{option_map}
use Rattle.poll_listing.specs.Listing.{ListingValue}
use Rattle.poll_listing.specs.Pairs.{updated_pairs, walk, with_head}
use Rattle.poll_listing.proofs.UpdatedPairs.{all_stay}
use Rattle.poll_listing.proofs.pairs.UpdatedPairs.next_told.Goals as goal

pub returns-in-None-None : goal.returns-in-None-None
returns-in-None-None g c =
    let olds : ListingValue = with_head (option_map deref_pair c.self.inside.before) c.self.inside.olds in
    rw c.in-None-None.is-0 (ap (walk None) (sym c.self.view_is
    ∙ ap (λ u. updated_pairs olds (with_head (option_map deref_pair u) c.self.inside.updates)) c.in-None-None.is-1)
    ∙ all_stay olds)
