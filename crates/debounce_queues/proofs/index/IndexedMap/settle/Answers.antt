use Rattle.std.proofs.Common.{◌∙◌}
use Rattle.debounce_queues.proofs.FrontSettle.{all_settled, next_settled}
use Rattle.debounce_queues.proofs.index.IndexedMap.settle.Goals as goal

pub loop-pair-preserved : goal.loop-pair-preserved
loop-pair-preserved g c =
    let l = c.loop-pair in
    let was = c.args.self.now in
    let one = c.settle_one in
    record {
      settled = next_settled was.map.entries c.args.pairs.now l.pair-index was.fronts l.self.fronts
          l.invariant.settled c.pair-item.result one.new.self.fronts c.loop-pair-test.true c.pair-item.is
          (rw l.invariant.same at one.ensures.fronts);
      same = one.ensures.map ∙ l.invariant.same;
    }

pub returns-clause-fronts : goal.returns-clause-fronts
returns-clause-fronts g c =
    let l = c.loop-pair in
    let was = c.args.self.now in
    all_settled was.map.entries c.args.pairs.now l.pair-index was.fronts l.self.fronts l.invariant.settled
    c.loop-pair-test.false
