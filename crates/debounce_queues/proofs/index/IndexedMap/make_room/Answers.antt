use Rattle.std.proofs.Common.{◌∙◌}
use Rattle.debounce_queues.proofs.FrontPuts.{nonempty_filled}
use Rattle.debounce_queues.proofs.index.IndexedMap.make_room.Goals as goal

pub returns-in-Err-clause-unchanged : goal.returns-in-Err-clause-unchanged
returns-in-Err-clause-unchanged g c = c.drop_empty.ensures ∙ c.in-Err.ensures.filled
    ∙ nonempty_filled c.args.self.now.map.entries c.requires
