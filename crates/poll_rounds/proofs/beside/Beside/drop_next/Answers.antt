use Rattle.std.proofs.Common.{◌≡◌, ◌∙◌, ◌∷◌, ap}
use Rattle.std.specs.Map.Iter.{deref_pair}
use Rattle.std.specs.Option.{option_map}
use Rattle.poll_listing.specs.Listing.{ListingValue}
use Rattle.poll_listing.specs.Pairs.{with_head}
use Rattle.poll_rounds.specs.Beside.{put_in, within}
use Rattle.poll_rounds.proofs.BesideLemmas.{passed, passed-same}
use Rattle.poll_rounds.proofs.beside.Beside.drop_next.Goals as goal

pub invariant_of-self-2 : goal.invariant_of-self-2
invariant_of-self-2 g c =
    let left : ListingValue =
    with_head (option_map deref_pair c.self.inside.next) (within c.self.inside.later c.self.inside.top) in
    let rest : ListingValue =
    with_head (option_map deref_pair c.next_within-self-inside.result)
    (within c.next_within-self-inside.new.entries c.self.inside.top) in
    let next : left ≡ (c.in-Some.path.now, c.in-Some._found.now) ∷ rest =
    ap (λ o. with_head (option_map deref_pair o) (within c.self.inside.later c.self.inside.top)) c.in-Some.is
    ∙ ap (λ es. (c.in-Some.path.now, c.in-Some._found.now) ∷ es) c.next_within-self-inside.ensures in
    passed c.self.inside.last.now left rest c.self.inside.updates.entries c.in-Some.path.now c.in-Some._found.now
    c.self.invariant next c.tell.new.updates.entries c.in_ok-tell.ensures.ok

pub returns-clause-same : goal.returns-clause-same
returns-clause-same g c =
    let left : ListingValue =
    with_head (option_map deref_pair c.self.inside.next) (within c.self.inside.later c.self.inside.top) in
    let rest : ListingValue =
    with_head (option_map deref_pair c.next_within-self-inside.result)
    (within c.next_within-self-inside.new.entries c.self.inside.top) in
    let next : left ≡ (c.in-Some.path.now, c.in-Some._found.now) ∷ rest =
    ap (λ o. with_head (option_map deref_pair o) (within c.self.inside.later c.self.inside.top)) c.in-Some.is
    ∙ ap (λ es. (c.in-Some.path.now, c.in-Some._found.now) ∷ es) c.next_within-self-inside.ensures in
    passed-same c.self.inside.last.now left rest c.self.inside.updates.entries c.in-Some.path.now
    c.in-Some._found.now c.self.invariant next c.tell.new.updates.entries c.in_ok-tell.ensures.ok
    ∙ ap put_in c.self.view_is
