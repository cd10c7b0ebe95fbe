use Rattle.std.proofs.Common.{◌∙◌, ap, sym}
use Rattle.debounce_queues.specs.Due.{is_due_at}
use Rattle.debounce_queues.proofs.FrontTicks.{least_quiet}
use Rattle.debounce_queues.proofs.fronts.is_oldest_due.Goals as goal

pub returns-in-Some-clause-none : goal.returns-in-Some-clause-none
returns-in-Some-clause-none g c =
    λ n. least_quiet c.args.due c.args.fronts.now c.in-Some.front.now c.in-Some.ensures.greatest
    (ap (λ k. is_due_at c.args.due k.0) (sym c.front.view_is) ∙ sym c.is_due_at.ensures ∙ n)
