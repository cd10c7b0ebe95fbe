use Rattle.std.proofs.Common.{sym, subst}
use Rattle.debounce_model.specs.State.{Core}
use Rattle.debounce_c.specs.Numbered.Marks.{IsNoneGone, Marks}
use Rattle.debounce_c.proofs.NumberedLemmas.MarkLemmas.{none_gone-inserted}
use Rattle.debounce_c.proofs.NumberedLemmas.SaidCores.{set_said}
use Rattle.debounce_c.proofs.numbered.NumberedCore.set_number.Goals as goal

pub invariant_of-self : goal.invariant_of-self
invariant_of-self c =
    let none = none_gone-inserted c.insert-outcome.result c.replace_cache-table.result c.insert-outcome.new.self
    c.args.path c.args.id c.insert-outcome.ensures.ok c.insert-outcome.ensures.err
    (subst IsNoneGone (sym c.replace_cache-table.ensures.old) c.self.invariant) in
    subst (λ (k : Core Marks). IsNoneGone k.cache) (sym c.replace_cache.ensures.others) none

pub returns-clause-ok : goal.returns-clause-ok
returns-clause-ok c =
    set_said c.insert-outcome.result c.self.inside.core c.replace_cache-table.new.self c.replace_cache.new.self _
    c.replace_cache-table.result c.insert-outcome.new.self c.args.self.now c.args.path c.args.id
    c.replace_cache-table.ensures.old c.replace_cache-table.ensures.others c.replace_cache.ensures.others
    c.self.view_is c.insert-outcome.ensures.ok
