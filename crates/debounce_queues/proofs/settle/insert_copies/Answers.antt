use Rattle.std.proofs.Common.{◌∙◌}
use Rattle.debounce_queues.proofs.FrontSettle.{all_put, next_put, others_same, still_in}
use Rattle.debounce_queues.specs.Steps.{is_pair}
use Rattle.debounce_queues.proofs.settle.insert_copies.Goals as goal

pub loop-pair-preserved : goal.loop-pair-preserved
loop-pair-preserved g c =
    let l = c.loop-pair in
    record {
      put = next_put c.args.pairs.now l.pair-index c.args.fronts.now l.fronts l.invariant.put c.pair-item.result
          c.insert_copy.new.fronts c.loop-pair-test.true c.pair-item.is c.in_ok-insert_copy.ensures.ok;
      grown = λ t p h. c.in_ok-insert_copy.ensures.ok t p
          ∙ still_in (is_pair c.pair-item.result t p) _ (l.invariant.grown t p h);
    }

pub returns-in_err-insert_copy-clause-kept : goal.returns-in_err-insert_copy-clause-kept
returns-in_err-insert_copy-clause-kept g c = λ t p h. c.in_err-insert_copy.ensures.unchanged t p
    ∙ c.loop-pair.invariant.grown t p h

pub returns-in_err-insert_copy-clause-others : goal.returns-in_err-insert_copy-clause-others
returns-in_err-insert_copy-clause-others g c = λ t p n.
    let l = c.loop-pair in
    c.in_err-insert_copy.ensures.unchanged t p
    ∙ others_same c.args.pairs.now l.pair-index c.args.fronts.now l.fronts l.invariant.put l.invariant.grown t p n

pub returns-clause-ok : goal.returns-clause-ok
returns-clause-ok g c =
    let l = c.loop-pair in
    all_put c.args.pairs.now l.pair-index c.args.fronts.now l.fronts l.invariant.put c.loop-pair-test.false

pub returns-clause-kept : goal.returns-clause-kept
returns-clause-kept g c = c.loop-pair.invariant.grown

pub returns-clause-others : goal.returns-clause-others
returns-clause-others g c =
    let l = c.loop-pair in
    others_same c.args.pairs.now l.pair-index c.args.fronts.now l.fronts l.invariant.put l.invariant.grown
