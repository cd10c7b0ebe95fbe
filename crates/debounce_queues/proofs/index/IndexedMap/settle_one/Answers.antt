use Rattle.std.proofs.Common.{sym, ap, ◌∙◌}
use Rattle.debounce_queues.specs.Fronts.{is_front}
use Rattle.debounce_queues.proofs.FrontSettle.{taken_out, left_in}
use Rattle.debounce_queues.proofs.index.IndexedMap.settle_one.Goals as goal

pub returns-then-not-is_front-clause-fronts : goal.returns-then-not-is_front-clause-fronts
returns-then-not-is_front-clause-fronts g c =
    taken_out c.args.self.now.map.entries c.args.self.now.fronts c.remove.new.self c.args.pair.now
    (ap (λ k. is_front c.args.self.now.map.entries k.0 k.1) (sym c.pair.view_is) ∙ sym c.is_front.ensures
    ∙ c.if-not-is_front.true) c.remove.ensures.updates.0

pub returns-else-not-is_front-clause-fronts : goal.returns-else-not-is_front-clause-fronts
returns-else-not-is_front-clause-fronts g c =
    left_in c.args.self.now.map.entries c.args.self.now.fronts c.args.pair.now
    (ap (λ k. is_front c.args.self.now.map.entries k.0 k.1) (sym c.pair.view_is) ∙ sym c.is_front.ensures
    ∙ c.if-not-is_front.false)
