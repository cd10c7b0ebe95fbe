use Rattle.std.proofs.Common.{◌≡◌, ◌∙◌, ◌∷◌, ap, sym}
use Rattle.std.specs.Map.Iter.{deref_pair}
use Rattle.std.specs.Option.{option_map}
use Rattle.poll_listing.specs.Listing.{ListingValue}
use Rattle.poll_listing.specs.Pairs.{with_head}
use Rattle.poll_rounds.specs.Beside.{BesideValue, within}
use Rattle.poll_rounds.proofs.BesideLemmas.{at_not_before}
use Rattle.poll_rounds.proofs.beside.Beside.is_next.Goals as goal

pub returns-in-Some : goal.returns-in-Some
returns-in-Some g c = λ h.
    let rest : ListingValue = within c.self.inside.later c.self.inside.top in
    let next : c.args.self.now.left ≡ (c.in-Some.next.now, _) ∷ rest =
    ap (λ (v : BesideValue). v.left) (sym c.self.view_is)
    ∙ ap (λ o. with_head (option_map deref_pair o) rest) c.in-Some.is in
    at_not_before c.args.self.now.left rest c.in-Some.next.now c.args.path.now _ next (c.eq.ensures.same.0 h)
