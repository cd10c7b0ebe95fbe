use Rattle.std.proofs.Common.{◌≡◌, ◌∙◌, ◌∷◌, ap, sym, subst, false}
use Rattle.std.specs.Map.Iter.{deref_pair}
use Rattle.std.specs.Option.{option_map}
use Rattle.poll_listing.specs.Listing.{ListingValue, has_entry}
use Rattle.poll_listing.specs.Pairs.{with_head}
use Rattle.poll_rounds.specs.Beside.{BesideValue, begins_before, within}
use Rattle.poll_rounds.proofs.BesideLemmas.{met_at, met_at-none, met_at-put, none_at}
use Rattle.poll_rounds.proofs.beside.Beside.meet.Goals as goal

pub invariant_of-self : goal.invariant_of-self
invariant_of-self g c =
    let left : ListingValue =
    with_head (option_map deref_pair c.self.inside.next) (within c.self.inside.later c.self.inside.top) in
    let rest : ListingValue =
    with_head (option_map deref_pair c.next_within-self-inside.result)
    (within c.next_within-self-inside.new.entries c.self.inside.top) in
    let next : left ≡ (c.in-Some.next.now, c.in-Some.found.now) ∷ rest =
    ap (λ o. with_head (option_map deref_pair o) (within c.self.inside.later c.self.inside.top)) c.in-Some.is
    ∙ ap (λ es. (c.in-Some.next.now, c.in-Some.found.now) ∷ es) c.next_within-self-inside.ensures in
    met_at c.self.inside.last.now left rest c.self.inside.updates.entries c.args.path.now c.in-Some.next.now
    c.in-Some.found.now c.args.self.now c.self.view_is c.self.invariant next
    (c.eq.ensures.same.0 c.if-eq.true) c.requires.path c.requires.folders

pub returns-then-eq-clause-ok : goal.returns-then-eq-clause-ok
returns-then-eq-clause-ok g c =
    let left : ListingValue =
    with_head (option_map deref_pair c.self.inside.next) (within c.self.inside.later c.self.inside.top) in
    let rest : ListingValue =
    with_head (option_map deref_pair c.next_within-self-inside.result)
    (within c.next_within-self-inside.new.entries c.self.inside.top) in
    let next : left ≡ (c.in-Some.next.now, c.in-Some.found.now) ∷ rest =
    ap (λ o. with_head (option_map deref_pair o) (within c.self.inside.later c.self.inside.top)) c.in-Some.is
    ∙ ap (λ es. (c.in-Some.next.now, c.in-Some.found.now) ∷ es) c.next_within-self-inside.ensures in
    met_at-put c.self.inside.last.now left rest c.self.inside.updates.entries c.args.path.now c.in-Some.next.now
    c.in-Some.found.now c.args.self.now c.self.view_is c.self.invariant next (c.eq.ensures.same.0 c.if-eq.true)

pub returns-then-eq-clause-here : goal.returns-then-eq-clause-here
returns-then-eq-clause-here g c =
    let left : ListingValue =
    with_head (option_map deref_pair c.self.inside.next) (within c.self.inside.later c.self.inside.top) in
    let rest : ListingValue =
    with_head (option_map deref_pair c.next_within-self-inside.result)
    (within c.next_within-self-inside.new.entries c.self.inside.top) in
    let next : left ≡ (c.in-Some.next.now, c.in-Some.found.now) ∷ rest =
    ap (λ o. with_head (option_map deref_pair o) (within c.self.inside.later c.self.inside.top)) c.in-Some.is
    ∙ ap (λ es. (c.in-Some.next.now, c.in-Some.found.now) ∷ es) c.next_within-self-inside.ensures in
    met_at-none c.self.inside.last.now left rest c.self.inside.updates.entries c.args.path.now c.in-Some.next.now
    c.in-Some.found.now c.args.self.now c.self.view_is c.self.invariant next (c.eq.ensures.same.0 c.if-eq.true)

pub returns-clause-here : goal.returns-clause-here
returns-clause-here g c =
    let left : ListingValue =
    with_head (option_map deref_pair c.self.inside.next) (within c.self.inside.later c.self.inside.top) in
    let next : left ≡ (c.in-Some.next.now, c.in-Some.found.now) ∷ within c.self.inside.later c.self.inside.top =
    ap (λ o. with_head (option_map deref_pair o) (within c.self.inside.later c.self.inside.top)) c.in-Some.is in
    subst (λ (v : BesideValue). has_entry v.left c.args.path.now ≡ false) c.self.view_is
    (none_at left (within c.self.inside.later c.self.inside.top) c.args.path.now c.in-Some.next.now c.in-Some.found.now
    c.self.invariant.sorted next
    (subst (λ (v : BesideValue). begins_before v.left c.args.path.now ≡ false) (sym c.self.view_is) c.requires.before)
    (sym c.eq.ensures.value ∙ c.if-eq.false))
