use Rattle.std.proofs.Common.{rules, false, ◌∙◌, ap, sym, subst}
use Rattle.std.proofs.lemmas.Map.Made.{map_same_pairs}
use Rattle.debounce_c.specs.declared.numbered.table.Marked.{Marked}
use Rattle.debounce_c.specs.Numbered.Marks.{IsNoneGone, restored}
use Rattle.debounce_c.proofs.NumberedLemmas.MarkLemmas.{none_gone-restored, restored-none}
use Rattle.debounce_c.proofs.numbered.table.NumberTable.restore.Goals as goal

-- a number that is there again
abbrev back : Marked → Marked
back m = record m { is_gone = false }

pub returns-then-not-self : goal.returns-then-not-self
returns-then-not-self c =
    sym (restored-none c.args.self.now (subst IsNoneGone c.self.view_is (c.self.invariant c.if-not-self.true)))

pub invariant_of-self : goal.invariant_of-self
invariant_of-self c = λ same.
    let left = map_same_pairs _ back _ (λ k v b w f' t. search rules) c.self.inside.entries.entries
    c.retain.new.self.entries c.retain.ensures.filtered in
    subst IsNoneGone (sym left) (none_gone-restored c.self.inside.entries.entries)

pub returns : goal.returns
returns c =
    map_same_pairs _ back _ (λ k v b w f' t. search rules) c.self.inside.entries.entries
    c.retain.new.self.entries c.retain.ensures.filtered
    ∙ ap restored c.self.view_is
