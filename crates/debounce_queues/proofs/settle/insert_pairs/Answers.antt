use Rattle.std.proofs.Common.{◌∙◌, ap, arith, append_assoc, length, ◌||◌}
use Rattle.std.specs.BTreeMap.{is_at}
use Rattle.std.specs.List.{list_any}
use Rattle.debounce_model.proofs.RunLemmas.{all_taken}
use Rattle.debounce_queues.specs.Fronts.{front_cmp, has}
use Rattle.debounce_queues.proofs.FrontTicks.{add_step, or_right}
use Rattle.debounce_queues.proofs.settle.insert_pairs.Goals as goal

pub loop-front-preserved : goal.loop-front-preserved
loop-front-preserved g c =
    let l = c.loop-front in
    let i = l.invariant in
    let e = c.in-Some.ensures.steps in
    record {
      put = add_step c.args.fronts.now l.fronts c.insert.new.self l.yielded c.in-Some.front i.put
          c.in_ok-insert.ensures.updates.0;
      left = rw (append_assoc, ← e.0) i.left;
      counted = omega (arith, ap length e.0, e.1, i.counted);
    }

pub returns-clause-ok : goal.returns-clause-ok
returns-clause-ok g c = λ t p.
    let l = c.loop-front in
    let i = l.invariant in
    i.put t p ∙ ap (λ ks. list_any (is_at (front_cmp (t, p))) ks || has c.args.fronts.now t p)
    (all_taken l.yielded _ _ _ i.left i.counted c.in-None.ensures.steps.0)

pub returns-clause-kept : goal.returns-clause-kept
returns-clause-kept g c = λ t p h. c.loop-front.invariant.put t p ∙ or_right _ _ h
