use Rattle.std.proofs.Common.{◌≡◌, codes, rules}
use Rattle.program_frame.proofs.Ids.{ids_of_two}
use Rattle.program_frame.proofs.words.with_life.Goals as goal

pub returns : goal.returns
returns c =
    let seconds : c.help-seconds.result.id.now ≡ codes "seconds" = search rules in
    let ticks : c.help-ticks.result.id.now ≡ codes "ticks" = search rules in
    let words = ids_of_two c.args.line _ c.with-2.result _ _ c.in_ok-with.ensures c.with-2.ensures in
    record { words = rw (← seconds, ← ticks) words }
