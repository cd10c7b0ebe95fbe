-- One more pair is taken out, and it was due.
use Rattle.std.proofs.Common.{◌∙◌}
use Rattle.debounce_queues.proofs.FrontTicks.{pop_later}
use Rattle.debounce_queues.proofs.FrontTaken.{undue}
use Rattle.debounce_queues.proofs.due_paths.drop_due.Goals as goal

pub loop-front-preserved : goal.loop-front-preserved
loop-front-preserved g c = λ t p n.
    c.in-Some.ensures.popped t p ∙ pop_later c.args.due c.in-Some._front t p _ c.in-Some.ensures.due n
    ∙ c.loop-front.invariant t p n

pub returns : goal.returns
returns g c = undue c.args.due c.args.fronts.now c.pop_due.new.fronts (λ t p n. c.in_default.ensures.kept t p
    ∙ c.loop-front.invariant t p n) c.in_default.ensures.none
