-- One more event.
use Rattle.std.proofs.Common.{ap, arith, append_assoc, length}
use Rattle.debounce_model.proofs.RunLemmas.{all_taken}
use Rattle.reader_laws.proofs.CallersLemmas.Following.{taken_more}
use Rattle.reader_laws.proofs.callers.follower.take_all.Goals as goal

pub loop-event-preserved : goal.loop-event-preserved
loop-event-preserved g c =
    let l = c.loop-event in
    let i = l.invariant in
    let e = c.in-Some.ensures.steps in
    record {
      taken = taken_more c.args.core.now l.core c.add_event.new.self l.yielded c.in-Some.event c.args.now i.taken
          c.in_ok-add_event.ensures.ok;
      left = rw (append_assoc, ← e.0) i.left;
      counted = omega (arith, ap length e.0, e.1, i.counted);
    }

pub returns-clause-ok : goal.returns-clause-ok
returns-clause-ok g c =
    let l = c.loop-event in
    let i = l.invariant in
    rw (← all_taken l.yielded _ _ _ i.left i.counted c.in-None.ensures.steps.0) i.taken
