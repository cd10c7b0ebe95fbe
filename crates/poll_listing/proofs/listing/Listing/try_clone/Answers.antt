use Rattle.std.proofs.Common.{◌∙◌, ap, sym, subst}
use Rattle.poll_listing.specs.Listing.{IsListing}
use Rattle.poll_listing.specs.MergedListings.{put_over}
use Rattle.poll_listing.proofs.MergeLemmas.{copied}
use Rattle.poll_listing.proofs.listing.Listing.try_clone.Goals as goal

pub invariant_of-result : goal.invariant_of-result
invariant_of-result g c =
    let old = c.self.inside.entries.entries in
    subst IsListing (sym (c.in-Ok.ensures ∙ (ap (λ es. put_over es old) c.new.ensures.empty
    ∙ copied old c.self.invariant.ordered))) c.self.invariant

pub returns-in-Ok-clause-ok : goal.returns-in-Ok-clause-ok
returns-in-Ok-clause-ok g c =
    let old = c.self.inside.entries.entries in
    c.in-Ok.ensures ∙ (ap (λ es. put_over es old) c.new.ensures.empty
    ∙ (copied old c.self.invariant.ordered ∙ c.self.view_is))
