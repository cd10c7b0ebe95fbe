-- An event that goes along is no older than the rename.
use Rattle.std.proofs.Common.{◌≡◌, max, arith}
use Rattle.std.proofs.lemmas.Grind.{common_steps}
use Rattle.debounce_core.proofs.rename.moved.moved_event.Goals as goal

pub returns : goal.returns
returns g c =
    let time : c.new.result.time ≡ max c.args.event.now.time c.args.time = cc in
    grind (arith, common_steps, time)
