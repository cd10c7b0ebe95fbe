use Rattle.std.proofs.Common.{◌∙◌, ap, subst, sym}
use Rattle.poll_listing.specs.Listing.{IsListing}
use Rattle.poll_listing.specs.Updates.{IsUpdate, after_each, changed_at, updated}
use Rattle.poll_listing.proofs.UpdateLemmas.{in_place, taken_out}
use Rattle.poll_listing.proofs.listing.Listing.update.Goals as goal

pub returns-in_default-clause-unchanged : goal.returns-in_default-clause-unchanged
returns-in_default-clause-unchanged g c =
    let es = c.self.inside.entries.entries in
    let us = c.args.updates.now.entries in
    c.drop_each_added.ensures
    ∙ (taken_out us es c.add_each.new.entries.entries c.self.invariant
    (subst (λ old. IsUpdate old us) (sym c.self.view_is) c.requires) c.in_default.ensures.others
    ∙ c.self.view_is)

pub invariant_of-self : goal.invariant_of-self
invariant_of-self g c = subst IsListing (sym (returns-in_default-clause-unchanged g c))
    (subst IsListing c.self.view_is c.self.invariant)

pub returns-clause-ok : goal.returns-clause-ok
returns-clause-ok g c =
    let es = c.self.inside.entries.entries in
    let us = c.args.updates.now.entries in
    c.change_each.ensures
    ∙ (ap (λ added. after_each changed_at added us) c.in-Ok.ensures.ok
    ∙ (in_place us es c.self.invariant (subst (λ old. IsUpdate old us) (sym c.self.view_is) c.requires)
    ∙ ap (λ old. updated old us) c.self.view_is))

pub invariant_of-self-2 : goal.invariant_of-self-2
invariant_of-self-2 g c = subst IsListing (sym (returns-clause-ok g c)) c.requires.law
