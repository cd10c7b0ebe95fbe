-- The queue, piece by piece.
use Rattle.debounce_core.proofs.RenameLemmas.TargetLemmas.{has_arrived}
use Rattle.debounce_core.proofs.rename.arrived.arrived.Goals as goal

pub returns : goal.returns
returns g c =
    has_arrived c.args.source.now c.args.target c.args.rename c.original_time-time.ensures c.in_ok-queue.ensures.items
    c.in_ok-add_override.ensures c.in_ok-add_rename.ensures c.in_ok-add_moved.ensures c.new.ensures
