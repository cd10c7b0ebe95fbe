use Rattle.std.proofs.Common.{◌≡◌, codes, rules}
use Rattle.program_frame.proofs.words.with_until_eof.Goals as goal

pub returns : goal.returns
returns c =
    let word : c.help-word.result.id.now ≡ codes "until-eof" = search rules in
    record { words = rw (← word) c.with.ensures }
