use Rattle.std.proofs.Common.{rules, ◌∙◌, ap, sym, subst}
use Rattle.std.proofs.lemmas.Map.Made.{filter_same_pairs}
use Rattle.debounce_c.specs.Numbered.Marks.{IsNoneGone, is_there, settled}
use Rattle.debounce_c.proofs.NumberedLemmas.MarkLemmas.{none_gone-settled, settled-none}
use Rattle.debounce_c.proofs.numbered.table.NumberTable.settle.Goals as goal

pub returns-then-not-self : goal.returns-then-not-self
returns-then-not-self c =
    sym (settled-none c.args.self.now (subst IsNoneGone c.self.view_is (c.self.invariant c.if-not-self.true)))

pub invariant_of-self : goal.invariant_of-self
invariant_of-self c = λ same.
    let left = filter_same_pairs _ is_there _ (λ k v b w f' t. search rules) c.self.inside.entries.entries
    c.retain.new.self.entries c.retain.ensures.filtered in
    subst IsNoneGone (sym left) (none_gone-settled c.self.inside.entries.entries)

pub returns : goal.returns
returns c =
    filter_same_pairs _ is_there _ (λ k v b w f' t. search rules) c.self.inside.entries.entries
    c.retain.new.self.entries c.retain.ensures.filtered
    ∙ ap settled c.self.view_is
