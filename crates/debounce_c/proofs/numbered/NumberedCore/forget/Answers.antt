use Rattle.std.proofs.Common.{sym, subst}
use Rattle.debounce_model.specs.State.{Core}
use Rattle.debounce_c.specs.Numbered.Marks.{IsNoneGone, Marks}
use Rattle.debounce_c.proofs.NumberedLemmas.MarkLemmas.{none_gone-settled}
use Rattle.debounce_c.proofs.NumberedLemmas.SaidCores.{forget_said}
use Rattle.debounce_c.proofs.numbered.NumberedCore.forget.Goals as goal

pub invariant_of-self : goal.invariant_of-self
invariant_of-self c =
    let none = subst IsNoneGone (sym c.settle.ensures) (none_gone-settled c.take_out.new.self) in
    subst (λ (k : Core Marks). IsNoneGone k.cache) (sym c.replace_cache.ensures.others) none

pub returns : goal.returns
returns c =
    forget_said c.self.inside.core c.replace_cache-table.new.self c.replace_cache.new.self _
    c.replace_cache-table.result c.take_out.new.self c.settle.new.self c.args.self.now c.args.path.now
    c.self.invariant c.replace_cache-table.ensures.old c.take_out.ensures c.settle.ensures
    c.replace_cache-table.ensures.others c.replace_cache.ensures.others c.self.view_is
