-- The paths of the pairs that are due are those of the queues that are.
use Rattle.std.proofs.Common.{◌∙◌}
use Rattle.debounce_queues.proofs.FrontTicks.{due_pairs}
use Rattle.debounce_queues.proofs.queues.IndexedQueues.lend_due.Goals as goal

pub lend_each-requires : goal.lend_each-requires
lend_each-requires g c = λ p. c.in_ok-paths.ensures p
    ∙ due_pairs c.args.due c.self.inside.index.fronts c.self.inside.index.map.entries c.self.invariant p

pub returns-clause-paths : goal.returns-clause-paths
returns-clause-paths g c =
    let index = c.self.inside.index in
    rw (← c.self.view_is) (
      λ p. c.in_ok-paths.ensures p
          ∙ due_pairs c.args.due index.fronts index.map.entries c.self.invariant p,
      c.in_ok-later.ensures.later,
    )
