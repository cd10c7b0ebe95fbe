use Rattle.std.proofs.Common.{rules}
use Rattle.std.proofs.lemmas.Fn.{filter_same}
use Rattle.debounce_model.specs.Queues.{queue_at}
use Rattle.debounce_queues.specs.Fronts.{front_of, is_time}
use Rattle.debounce_queues.proofs.FrontMoves.{tidied}
use Rattle.debounce_queues.proofs.index.IndexedMap.tidy.Goals as goal

pub returns-clause-indexed : goal.returns-clause-indexed
returns-clause-indexed g c =
    let was = c.args.self.now in
    record {
      exact = tidied was.fronts c.retain.new.self was.map.entries
          (filter_same _ (λ k. is_time (front_of (queue_at was.map.entries k.1)) k.0)
          _ (λ x b f' t. search rules) was.fronts.keys c.retain.new.self.keys c.retain.ensures.filtered)
          c.requires.covered;
      filled = c.requires.filled;
    }
