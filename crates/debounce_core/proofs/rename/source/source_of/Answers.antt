-- What the first two events are says which parts there are.
use Rattle.std.proofs.Common.{◌∙◌, ap}
use Rattle.debounce_model.specs.Rename.{moving, staying}
use Rattle.debounce_core.proofs.RenameLemmas.SourceParts.{alone_there, first_there, neither_there, none_there, second_there}
use Rattle.debounce_core.proofs.rename.source.source_of.Goals as goal

pub returns-in_default-clause-earlier : goal.returns-in_default-clause-earlier
returns-in_default-clause-earlier g c =
    c.source_after.ensures.earlier ∙ (none_there c.args.events.now c.in_default.len_below).0

pub returns-in_default-clause-stays : goal.returns-in_default-clause-stays
returns-in_default-clause-stays g c =
    c.source_after.ensures.stays ∙ ap staying (none_there c.args.events.now c.in_default.len_below).1

pub returns-in_default-clause-moving : goal.returns-in_default-clause-moving
returns-in_default-clause-moving g c =
    c.source_after.ensures.moving ∙ ap moving (none_there c.args.events.now c.in_default.len_below).1

pub returns-then-is_both-clause-earlier : goal.returns-then-is_both-clause-earlier
returns-then-is_both-clause-earlier g c =
    c.source_after-then-is_both.ensures.earlier ∙ (first_there c.args.events.now c.first-item.result
    c.in-len1-up.len_at_least c.first-item.is c.kind.ensures c.is_both.ensures c.if-is_both.true).0

pub returns-then-is_both-clause-stays : goal.returns-then-is_both-clause-stays
returns-then-is_both-clause-stays g c =
    c.source_after-then-is_both.ensures.stays ∙ ap staying (first_there c.args.events.now c.first-item.result
    c.in-len1-up.len_at_least c.first-item.is c.kind.ensures c.is_both.ensures c.if-is_both.true).1

pub returns-then-is_both-clause-moving : goal.returns-then-is_both-clause-moving
returns-then-is_both-clause-moving g c =
    c.source_after-then-is_both.ensures.moving ∙ ap moving (first_there c.args.events.now c.first-item.result
    c.in-len1-up.len_at_least c.first-item.is c.kind.ensures c.is_both.ensures c.if-is_both.true).1

pub returns-in_default-rest-clause-earlier : goal.returns-in_default-rest-clause-earlier
returns-in_default-rest-clause-earlier g c =
    c.source_after-in_default-rest.ensures.earlier ∙ (alone_there c.args.events.now c.first-item.result
    c.in-len1-up.len_at_least c.first-item.is c.kind.ensures c.is_both.ensures c.if-is_both.false
    c.in_default-rest.len_below).0

pub returns-in_default-rest-clause-stays : goal.returns-in_default-rest-clause-stays
returns-in_default-rest-clause-stays g c =
    c.source_after-in_default-rest.ensures.stays ∙ ap staying (alone_there c.args.events.now c.first-item.result
    c.in-len1-up.len_at_least c.first-item.is c.kind.ensures c.is_both.ensures c.if-is_both.false
    c.in_default-rest.len_below).1

pub returns-in_default-rest-clause-moving : goal.returns-in_default-rest-clause-moving
returns-in_default-rest-clause-moving g c =
    c.source_after-in_default-rest.ensures.moving ∙ ap moving (alone_there c.args.events.now c.first-item.result
    c.in-len1-up.len_at_least c.first-item.is c.kind.ensures c.is_both.ensures c.if-is_both.false
    c.in_default-rest.len_below).1

pub returns-then-is_both-2-clause-earlier : goal.returns-then-is_both-2-clause-earlier
returns-then-is_both-2-clause-earlier g c =
    (second_there c.args.events.now c.first-item.result c.in-len1-up.len_at_least c.first-item.is
    c.kind.ensures c.is_both.ensures c.requires c.if-is_both.false
    c.second-item.result c.in-len1-up-rest.len_at_least c.second-item.is c.kind-2.ensures c.is_both-2.ensures
    c.if-is_both-2.true).0

pub returns-then-is_both-2-clause-stays : goal.returns-then-is_both-2-clause-stays
returns-then-is_both-2-clause-stays g c =
    (second_there c.args.events.now c.first-item.result c.in-len1-up.len_at_least c.first-item.is
    c.kind.ensures c.is_both.ensures c.requires c.if-is_both.false
    c.second-item.result c.in-len1-up-rest.len_at_least c.second-item.is c.kind-2.ensures c.is_both-2.ensures
    c.if-is_both-2.true).1

pub returns-then-is_both-2-clause-moving : goal.returns-then-is_both-2-clause-moving
returns-then-is_both-2-clause-moving g c =
    (second_there c.args.events.now c.first-item.result c.in-len1-up.len_at_least c.first-item.is
    c.kind.ensures c.is_both.ensures c.requires c.if-is_both.false
    c.second-item.result c.in-len1-up-rest.len_at_least c.second-item.is c.kind-2.ensures c.is_both-2.ensures
    c.if-is_both-2.true).2

pub returns-clause-earlier : goal.returns-clause-earlier
returns-clause-earlier g c =
    c.source_after-2.ensures.earlier ∙ (neither_there c.args.events.now c.first-item.result c.in-len1-up.len_at_least
    c.first-item.is c.kind.ensures c.is_both.ensures c.requires c.if-is_both.false c.second-item.result
    c.in-len1-up-rest.len_at_least c.second-item.is c.kind-2.ensures c.is_both-2.ensures c.if-is_both-2.false).0

pub returns-clause-stays : goal.returns-clause-stays
returns-clause-stays g c =
    c.source_after-2.ensures.stays ∙ ap staying (neither_there c.args.events.now c.first-item.result
    c.in-len1-up.len_at_least c.first-item.is c.kind.ensures c.is_both.ensures c.requires c.if-is_both.false
    c.second-item.result c.in-len1-up-rest.len_at_least c.second-item.is c.kind-2.ensures c.is_both-2.ensures
    c.if-is_both-2.false).1

pub returns-clause-moving : goal.returns-clause-moving
returns-clause-moving g c =
    c.source_after-2.ensures.moving ∙ ap moving (neither_there c.args.events.now c.first-item.result
    c.in-len1-up.len_at_least c.first-item.is c.kind.ensures c.is_both.ensures c.requires c.if-is_both.false
    c.second-item.result c.in-len1-up-rest.len_at_least c.second-item.is c.kind-2.ensures c.is_both-2.ensures
    c.if-is_both-2.false).1
