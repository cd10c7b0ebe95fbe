use Rattle.std.proofs.Common.{◌≡◌, pos, Some, false, rules}
use Rattle.std.specs.Duration.{as_nanos}
use Rattle.jiff_fmt.specs.Printer.{options}
use Rattle.program_logic.proofs.JournalLemmas.ClockTexts.{clock_text_is}
use Rattle.program_logic.proofs.journal.clock.clock_text.Goals as goal

pub returns-in-Ok-clause-some : goal.returns-in-Ok-clause-some
returns-in-Ok-clause-some c =
    let plain : options c.precision.result ≡ (false, 84, Some 9) = search rules in
    let time : c.in-Ok.time.nanosecond ≡ pos (as_nanos c.args.since_1970) = search rules in
    clock_text_is c.precision.result c.in-Ok.time _ _ plain time c.timestamp_text.ensures
