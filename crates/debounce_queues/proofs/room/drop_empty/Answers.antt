use Rattle.std.proofs.Common.{◌∙◌}
use Rattle.debounce_model.proofs.MoveSteps.{nonempty_changed}
use Rattle.debounce_queues.proofs.room.drop_empty.Goals as goal

pub returns : goal.returns
returns g c = c.change_values.ensures ∙ nonempty_changed c.args.map.now.entries
