use Rattle.std.proofs.Common.{◌≡◌, ◌∙◌, [], ap, subst}
use Rattle.std.specs.Map.Iter.{deref_pair}
use Rattle.std.specs.Option.{option_map}
use Rattle.poll_listing.specs.Pairs.{with_head}
use Rattle.poll_listing.specs.Updates.{IsUpdate, updated}
use Rattle.poll_rounds.specs.Beside.{BesideValue, put_in, within}
use Rattle.poll_rounds.proofs.BesideLemmas.{ended}
use Rattle.poll_rounds.proofs.beside.Beside.into_updates.Goals as goal

pub returns-clause-ok : goal.returns-clause-ok
returns-clause-ok g c =
    let v : BesideValue = record {
      last = c.self.inside.last.now;
      left = with_head (option_map deref_pair c.self.inside.next) (within c.self.inside.later c.self.inside.top);
      updates = c.self.inside.updates.entries;
    } in
    let none : v.left ≡ [] = ap (λ (v : BesideValue). v.left) c.self.view_is ∙ c.in_ok-drop_rest.ensures.ok in
    let last : v.last ≡ c.args.self.last =
    ap (λ (v : BesideValue). v.last) c.self.view_is ∙ c.drop_rest.ensures.beside in
    subst (λ l. updated l v.updates ≡ put_in c.args.self) last
    ((ended v c.self.invariant none).0 ∙ (ap put_in c.self.view_is ∙ c.drop_rest.ensures.same))

pub returns-clause-update : goal.returns-clause-update
returns-clause-update g c =
    let v : BesideValue = record {
      last = c.self.inside.last.now;
      left = with_head (option_map deref_pair c.self.inside.next) (within c.self.inside.later c.self.inside.top);
      updates = c.self.inside.updates.entries;
    } in
    let none : v.left ≡ [] = ap (λ (v : BesideValue). v.left) c.self.view_is ∙ c.in_ok-drop_rest.ensures.ok in
    let last : v.last ≡ c.args.self.last =
    ap (λ (v : BesideValue). v.last) c.self.view_is ∙ c.drop_rest.ensures.beside in
    subst (λ l. IsUpdate l v.updates) last (ended v c.self.invariant none).1
