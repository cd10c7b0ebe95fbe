use Rattle.std.proofs.Common.{ap, sym, subst}
use Rattle.debounce_c.specs.Numbered.Marks.{IsNoneGone, Marks, with_table}
use Rattle.debounce_c.proofs.NumberedLemmas.MarkLemmas.{settled-none}
use Rattle.debounce_c.proofs.numbered.settle.Goals as goal

pub returns-then-is_settled : goal.returns-then-is_settled
returns-then-is_settled c =
    let none = subst IsNoneGone c.cache.ensures (c.is_settled.ensures c.if-is_settled.true) in
    ap (λ (m : Marks). with_table c.args.core.now m) (sym (settled-none c.args.core.now.cache none))
