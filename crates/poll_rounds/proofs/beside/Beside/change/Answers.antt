use Rattle.std.proofs.Common.{◌≡◌, ◌∙◌, ap, sym, Some}
use Rattle.std.specs.Map.Iter.{deref_pair}
use Rattle.std.specs.Option.{option_map}
use Rattle.poll_listing.specs.Listing.{ListingValue, entry_at}
use Rattle.poll_listing.specs.Pairs.{with_head}
use Rattle.poll_rounds.specs.Beside.{within}
use Rattle.poll_rounds.proofs.BesideLemmas.{told-added, told-changed, told-same}
use Rattle.poll_rounds.proofs.beside.Beside.change.Goals as goal

pub invariant_of-self : goal.invariant_of-self
invariant_of-self g c =
    let left : ListingValue =
    with_head (option_map deref_pair c.self.inside.next) (within c.self.inside.later c.self.inside.top) in
    (told-added c.self.inside.last.now left c.self.inside.updates.entries c.args.path.now c.args.found
    c.args.self.now c.self.view_is c.self.invariant c.requires.here c.requires.path c.requires.folders
    c.tell.result c.tell.new.updates.entries c.tell.ensures.ok c.tell.ensures.unchanged (sym c.in-None.ensures)).1

pub returns-in-None-clause-ok : goal.returns-in-None-clause-ok
returns-in-None-clause-ok g c =
    let left : ListingValue =
    with_head (option_map deref_pair c.self.inside.next) (within c.self.inside.later c.self.inside.top) in
    (told-added c.self.inside.last.now left c.self.inside.updates.entries c.args.path.now c.args.found
    c.args.self.now c.self.view_is c.self.invariant c.requires.here c.requires.path c.requires.folders
    c.tell.result c.tell.new.updates.entries c.tell.ensures.ok c.tell.ensures.unchanged (sym c.in-None.ensures)).0

pub invariant_of-self-then-is_equal : goal.invariant_of-self-then-is_equal
invariant_of-self-then-is_equal g c =
    let left : ListingValue =
    with_head (option_map deref_pair c.self.inside.next) (within c.self.inside.later c.self.inside.top) in
    let some : entry_at c.self.inside.last.now c.args.path.now ≡ Some c.args.found =
    sym c.in-Some.ensures ∙ ap (λ f. Some f) (c.is_equal.ensures c.if-is_equal.true) in
    (told-same c.self.inside.last.now left c.self.inside.updates.entries c.args.path.now c.args.found
    c.args.self.now c.self.view_is c.self.invariant c.requires.here c.requires.path c.requires.folders
    c.remove.new.self.entries c.remove.ensures.entries some).1

pub returns-in-Some-clause-ok : goal.returns-in-Some-clause-ok
returns-in-Some-clause-ok g c =
    let left : ListingValue =
    with_head (option_map deref_pair c.self.inside.next) (within c.self.inside.later c.self.inside.top) in
    let some : entry_at c.self.inside.last.now c.args.path.now ≡ Some c.args.found =
    sym c.in-Some.ensures ∙ ap (λ f. Some f) (c.is_equal.ensures c.if-is_equal.true) in
    (told-same c.self.inside.last.now left c.self.inside.updates.entries c.args.path.now c.args.found
    c.args.self.now c.self.view_is c.self.invariant c.requires.here c.requires.path c.requires.folders
    c.remove.new.self.entries c.remove.ensures.entries some).0

pub invariant_of-self-in-Some-2 : goal.invariant_of-self-in-Some-2
invariant_of-self-in-Some-2 g c =
    let left : ListingValue =
    with_head (option_map deref_pair c.self.inside.next) (within c.self.inside.later c.self.inside.top) in
    (told-changed c.self.inside.last.now left c.self.inside.updates.entries c.args.path.now c.args.found
    c.args.self.now c.self.view_is c.self.invariant c.requires.here c.requires.path c.requires.folders
    c.tell-in-Some-2.result c.tell-in-Some-2.new.updates.entries c.in-Some-2.field-0 c.tell-in-Some-2.ensures.ok
    c.tell-in-Some-2.ensures.unchanged (sym c.in-Some-2.ensures)).1

pub returns-in-Some-2-clause-ok : goal.returns-in-Some-2-clause-ok
returns-in-Some-2-clause-ok g c =
    let left : ListingValue =
    with_head (option_map deref_pair c.self.inside.next) (within c.self.inside.later c.self.inside.top) in
    (told-changed c.self.inside.last.now left c.self.inside.updates.entries c.args.path.now c.args.found
    c.args.self.now c.self.view_is c.self.invariant c.requires.here c.requires.path c.requires.folders
    c.tell-in-Some-2.result c.tell-in-Some-2.new.updates.entries c.in-Some-2.field-0 c.tell-in-Some-2.ensures.ok
    c.tell-in-Some-2.ensures.unchanged (sym c.in-Some-2.ensures)).0
