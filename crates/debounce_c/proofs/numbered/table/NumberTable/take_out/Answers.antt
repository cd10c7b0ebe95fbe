use Rattle.std.proofs.Common.{rules, ◌≡◌, ◌∙◌, ap, length, sym, subst}
use Rattle.debounce_c.specs.Numbered.Marks.{Marks, gone_at, marked}
use Rattle.debounce_c.proofs.NumberedLemmas.MarkLemmas.{changed_by_keys, marked-empty}
use Rattle.debounce_c.proofs.numbered.table.NumberTable.take_out.Goals as goal

pub returns-then-len-eq0 : goal.returns-then-len-eq0
returns-then-len-eq0 c =
    let none = sym c.len.ensures.len ∙ c.if-len-eq0.true in
    marked-empty c.args.path.now c.args.self.now (subst (λ (m : Marks). length m ≡ 0) c.self.view_is none)

pub returns : goal.returns
returns c =
    changed_by_keys _ (gone_at c.args.path.now) _ (λ k v b w f' t. search rules) c.self.inside.entries.entries
    c.retain.new.self.entries c.retain.ensures.filtered
    ∙ ap (marked c.args.path.now) c.self.view_is
