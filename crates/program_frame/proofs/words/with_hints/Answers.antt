use Rattle.std.proofs.Common.{◌≡◌, codes, rules}
use Rattle.program_frame.proofs.Ids.{ids_of_two}
use Rattle.program_frame.proofs.words.with_hints.Goals as goal

pub returns : goal.returns
returns c =
    let hints : c.help-hints.result.id.now ≡ codes "hints" = search rules in
    let zero : c.help-zero.result.id.now ≡ codes "hints-zero" = search rules in
    let words = ids_of_two c.args.line _ c.with-2.result _ _ c.in_ok-with.ensures c.with-2.ensures in
    record { words = rw (← hints, ← zero) words }
