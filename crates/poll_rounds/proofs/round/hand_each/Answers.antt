use Rattle.std.proofs.Common.{ap, subst, arith, append_assoc, length}
use Rattle.debounce_model.proofs.RunLemmas.{all_taken}
use Rattle.poll_rounds.specs.Rounds.{HandsEach}
use Rattle.poll_rounds.proofs.RoundLemmas.{HandsEach-push}
use Rattle.poll_rounds.proofs.round.hand_each.Goals as goal

pub loop-event-preserved : goal.loop-event-preserved
loop-event-preserved g c =
    let l = c.loop-event in
    let i = l.invariant in
    let e = c.in-Some.ensures.steps in
    record {
      ready = c.handle_event.ensures.again;
      handed = HandsEach-push g.H.EventHandler.handles l.yielded c.in-Some.event c.args.handler.now l.handler
          c.handle_event.new.self i.handed c.handle_event.ensures.handled;
      left = rw (append_assoc, ← e.0) i.left;
      counted = omega (arith, ap length e.0, e.1, i.counted);
    }

pub returns-clause-handed : goal.returns-clause-handed
returns-clause-handed g c =
    let l = c.loop-event in
    let i = l.invariant in
    subst (λ xs. HandsEach g.H.EventHandler.handles xs c.args.handler.now l.handler)
    (all_taken l.yielded _ _ _ i.left i.counted c.in-None.ensures.steps.0) i.handed
