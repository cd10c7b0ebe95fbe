use Rattle.std.proofs.Common.{sym, subst}
use Rattle.poll_listing.specs.Listing.{IsListing}
use Rattle.poll_listing.specs.MergedListings.{IsMerged}
use Rattle.poll_listing.proofs.MergeLemmas.{merged, merged_listing}
use Rattle.poll_listing.proofs.listing.Listing.merged.Goals as goal

pub invariant_of-result : goal.invariant_of-result
invariant_of-result g c =
    subst IsListing (sym c.in-Ok.ensures)
    (merged_listing c.other.inside.entries.entries c.self.inside.entries.entries c.other.invariant
    c.self.invariant)

pub returns-in-Ok-clause-ok : goal.returns-in-Ok-clause-ok
returns-in-Ok-clause-ok g c =
    let over = c.self.inside.entries.entries in
    let under = c.other.inside.entries.entries in
    let first : IsMerged over under c.in-Ok.entries.entries =
    subst (IsMerged over under) (sym c.in-Ok.ensures) (merged under over c.self.invariant.ordered) in
    subst (λ es. IsMerged es c.args.other c.in-Ok.entries.entries) c.self.view_is
    (subst (λ es. IsMerged over es c.in-Ok.entries.entries) c.other.view_is first)
