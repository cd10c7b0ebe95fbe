use Rattle.std.proofs.Common.{sym, subst}
use Rattle.debounce_model.specs.State.{Core}
use Rattle.debounce_c.specs.Numbered.Marks.{IsNoneGone, Marks}
use Rattle.debounce_c.proofs.NumberedLemmas.MarkLemmas.{none_gone-settled}
use Rattle.debounce_c.proofs.NumberedLemmas.SaidCores.{unrooted_said}
use Rattle.debounce_c.proofs.numbered.NumberedCore.remove_root.Goals as goal

pub invariant_of-self-2 : goal.invariant_of-self-2
invariant_of-self-2 c = subst (λ (k : Core Marks). IsNoneGone k.cache) (sym c.settle.ensures)
    (none_gone-settled c.remove_root.new.self.cache)

pub returns-clause-ok : goal.returns-clause-ok
returns-clause-ok c =
    unrooted_said c.self.inside.core c.remove_root.new.self c.settle.new.core c.args.self.now c.args.path.now
    c.self.invariant c.self.view_is c.settle.ensures c.in_ok-remove_root.ensures.ok
