use Rattle.std.proofs.Common.{rules, not, ◌∙◌, ap, sym, subst}
use Rattle.std.proofs.lemmas.Map.Made.{filter_same_pairs}
use Rattle.notify_paths.specs.Path.{is_prefix}
use Rattle.poll_listing.specs.Listing.{IsListing}
use Rattle.poll_listing.specs.Near.{outside}
use Rattle.poll_listing.proofs.NearLemmas.{outside_listing}
use Rattle.poll_listing.proofs.listing.Listing.drop_at.Goals as goal

pub invariant_of-self : goal.invariant_of-self
invariant_of-self g c =
    let kept = filter_same_pairs _ (λ e. not (is_prefix c.args.path.now e.0)) _ (λ k v b w f' t. search rules)
    c.self.inside.entries.entries c.retain.new.self.entries c.retain.ensures.filtered in
    subst IsListing (sym kept) (outside_listing c.self.inside.entries.entries c.args.path.now c.self.invariant)

pub returns : goal.returns
returns g c =
    filter_same_pairs _ (λ e. not (is_prefix c.args.path.now e.0)) _ (λ k v b w f' t. search rules)
    c.self.inside.entries.entries c.retain.new.self.entries c.retain.ensures.filtered
    ∙ ap (λ es. outside es c.args.path.now) c.self.view_is
