use Rattle.std.proofs.Common.{sym, subst}
use Rattle.debounce_model.specs.State.{Core}
use Rattle.debounce_c.specs.Numbered.Marks.{IsNoneGone, Marks}
use Rattle.debounce_c.proofs.NumberedLemmas.MarkLemmas.{none_gone-restored, none_gone-settled}
use Rattle.debounce_c.proofs.NumberedLemmas.SaidCores.{rooted_said, root_back, root_said}
use Rattle.debounce_c.proofs.numbered.NumberedCore.add_root.Goals as goal

pub invariant_of-self : goal.invariant_of-self
invariant_of-self c = subst (λ (k : Core Marks). IsNoneGone k.cache) (sym c.settle.ensures)
    (none_gone-settled c.add_root.new.self.cache)

pub invariant_of-self-in-Err : goal.invariant_of-self-in-Err
invariant_of-self-in-Err c = subst (λ (k : Core Marks). IsNoneGone k.cache) (sym c.restore.ensures)
    (none_gone-restored c.add_root.new.self.cache)

pub returns-in-Ok-clause-ok : goal.returns-in-Ok-clause-ok
returns-in-Ok-clause-ok c =
    rooted_said c.self.inside.core c.add_root.new.self c.settle.new.core c.args.self.now c.args.path.now c.args.mode
    c.self.invariant c.self.view_is c.settle.ensures c.in-Ok.ensures.ok

pub returns-in-Err-clause-err : goal.returns-in-Err-clause-err
returns-in-Err-clause-err c =
    root_said c.self.inside.core c.add_root.new.self c.restore.new.core c.args.self.now c.args.path.now c.args.mode
    c.in-Err.error c.self.invariant c.self.view_is c.restore.ensures c.in-Err.ensures.err

pub returns-in-Err-clause-unchanged : goal.returns-in-Err-clause-unchanged
returns-in-Err-clause-unchanged c =
    root_back c.self.inside.core c.add_root.new.self c.restore.new.core c.args.self.now c.args.path.now c.args.mode
    c.in-Err.error c.self.invariant c.self.view_is c.restore.ensures c.in-Err.ensures.err
