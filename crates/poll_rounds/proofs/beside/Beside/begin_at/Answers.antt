use Rattle.std.proofs.Common.{rules, ◌≡◌, ◌∙◌, [], not, filter, ap, sym}
use Rattle.std.proofs.lemmas.Map.Made.{filter_same_pairs}
use Rattle.std.specs.Map.Iter.{deref_pair}
use Rattle.std.specs.Option.{option_map}
use Rattle.notify_paths.specs.Path.{is_prefix}
use Rattle.poll_listing.specs.Listing.{ListingValue}
use Rattle.poll_listing.specs.Near.{outside}
use Rattle.poll_listing.specs.Pairs.{with_head}
use Rattle.poll_rounds.specs.Beside.{BesideValue, put_in, within}
use Rattle.poll_rounds.proofs.BesideLemmas.{out, out-put}
use Rattle.poll_rounds.proofs.beside.Beside.begin_at.Goals as goal

pub invariant_of-self : goal.invariant_of-self
invariant_of-self g c =
    let path = c.args.path.now in
    let last = c.self.inside.last.now in
    let us = c.self.inside.updates.entries in
    let left : ListingValue =
    with_head (option_map deref_pair c.self.inside.next) (within c.self.inside.later c.self.inside.top) in
    let none : left ≡ [] = ap (λ (v : BesideValue). v.left) c.self.view_is ∙ c.requires.left in
    let more : ListingValue =
    with_head (option_map deref_pair c.next_within-self-inside.result)
    (within c.next_within-self-inside.new.entries c.args.top) in
    let is : more ≡ within last path =
    ap (λ t. with_head (option_map deref_pair c.next_within-self-inside.result)
    (within c.next_within-self-inside.new.entries t)) c.requires.top
    ∙ (sym c.next_within-self-inside.ensures ∙ c.begin-self-inside.ensures.ok) in
    let fewer : c.retain.new.self.entries ≡ filter (λ u. not (is_prefix path u.0)) us =
    filter_same_pairs _ (λ u. not (is_prefix path u.0)) _ (λ k v b w f' t. search rules) us c.retain.new.self.entries
    c.retain.ensures.filtered in
    out last left us c.self.invariant none path more c.retain.new.self.entries is fewer

pub returns-clause-ok : goal.returns-clause-ok
returns-clause-ok g c =
    let path = c.args.path.now in
    let last = c.self.inside.last.now in
    let us = c.self.inside.updates.entries in
    let left : ListingValue =
    with_head (option_map deref_pair c.self.inside.next) (within c.self.inside.later c.self.inside.top) in
    let none : left ≡ [] = ap (λ (v : BesideValue). v.left) c.self.view_is ∙ c.requires.left in
    let more : ListingValue =
    with_head (option_map deref_pair c.next_within-self-inside.result)
    (within c.next_within-self-inside.new.entries c.args.top) in
    let is : more ≡ within last path =
    ap (λ t. with_head (option_map deref_pair c.next_within-self-inside.result)
    (within c.next_within-self-inside.new.entries t)) c.requires.top
    ∙ (sym c.next_within-self-inside.ensures ∙ c.begin-self-inside.ensures.ok) in
    let fewer : c.retain.new.self.entries ≡ filter (λ u. not (is_prefix path u.0)) us =
    filter_same_pairs _ (λ u. not (is_prefix path u.0)) _ (λ k v b w f' t. search rules) us c.retain.new.self.entries
    c.retain.ensures.filtered in
    out-put last left us c.self.invariant none path more c.retain.new.self.entries is fewer
    ∙ ap (λ v. outside (put_in v) path) c.self.view_is
