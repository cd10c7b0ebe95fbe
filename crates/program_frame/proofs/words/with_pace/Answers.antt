use Rattle.std.proofs.Common.{◌≡◌, codes, rules}
use Rattle.program_frame.proofs.Ids.{ids_of_two}
use Rattle.program_frame.proofs.words.with_pace.Goals as goal

pub returns : goal.returns
returns c =
    let timeout : c.help-timeout.result.id.now ≡ codes "timeout" = search rules in
    let interval : c.help-interval.result.id.now ≡ codes "interval" = search rules in
    let words = ids_of_two c.args.line _ c.with-2.result _ _ c.in_ok-with.ensures c.with-2.ensures in
    record { words = rw (← timeout, ← interval) words }
