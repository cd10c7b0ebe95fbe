use Rattle.std.proofs.Common.{◌≡◌, ◌∙◌, [], ap, sym}
use Rattle.std.specs.Map.Iter.{deref_pair}
use Rattle.std.specs.Option.{option_map}
use Rattle.poll_listing.specs.Listing.{ListingValue, entry_at}
use Rattle.poll_listing.specs.Pairs.{with_head}
use Rattle.poll_listing.specs.Updates.{after}
use Rattle.poll_rounds.specs.Beside.{BesideValue, put_in, within}
use Rattle.poll_rounds.proofs.BesideLemmas.{put-kept}
use Rattle.poll_rounds.proofs.beside.Beside.found_at.Goals as goal

pub returns-in-Some : goal.returns-in-Some
returns-in-Some g c =
    let path = c.args.path.now in
    let last = c.self.inside.last.now in
    let left : ListingValue =
    with_head (option_map deref_pair c.self.inside.next) (within c.self.inside.later c.self.inside.top) in
    let none : left ≡ [] = ap (λ (v : BesideValue). v.left) c.self.view_is ∙ c.requires in
    c.found.ensures
    ∙ (ap (λ u. after u (entry_at last path)) c.in-Some.ensures.value
    ∙ (sym (put-kept last left c.self.inside.updates.entries c.self.invariant none path)
    ∙ ap (λ v. entry_at (put_in v) path) c.self.view_is))

pub returns-in-None : goal.returns-in-None
returns-in-None g c =
    let path = c.args.path.now in
    let last = c.self.inside.last.now in
    let left : ListingValue =
    with_head (option_map deref_pair c.self.inside.next) (within c.self.inside.later c.self.inside.top) in
    let none : left ≡ [] = ap (λ (v : BesideValue). v.left) c.self.view_is ∙ c.requires in
    c.get-in-None.ensures
    ∙ (ap (λ u. after u (entry_at last path)) c.in-None.ensures.value
    ∙ (sym (put-kept last left c.self.inside.updates.entries c.self.invariant none path)
    ∙ ap (λ v. entry_at (put_in v) path) c.self.view_is))
