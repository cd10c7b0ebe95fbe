-- What a printer of jiff writes of an instant is the clock's text. The function that writes it cites this.
use Rattle.std.proofs.Common.{◌≡◌, ℕ, pos, ◌∙◌, ap, List, ◌++◌, Some, false}
use Rattle.jiff_core.specs.declared.timestamp.Timestamp.{Timestamp}
use Rattle.jiff_fmt.specs.declared.temporal.printer.DateTimePrinter.{DateTimePrinter}
use Rattle.jiff_fmt.specs.Printer.{options, IsTimestampText}
use Rattle.jiff_fmt.specs.Text.{datetime_text, zulu_text}
use Rattle.program_logic.specs.Journal.Clock.{IsClockText}

-- a printer in upper case, with `T` and nine digits
pub clock_text_is : (p : DateTimePrinter) (t : Timestamp) (nanos : ℕ) (text : List ℕ)
    → options p ≡ (false, 84, Some 9) → t.nanosecond ≡ pos nanos
    → IsTimestampText p t text → IsClockText nanos text
clock_text_is p t nanos text plain time (dt, is, written) =
    (dt, is ∙ time, written ∙ ap (λ o. datetime_text o.0 o.1 o.2 dt ++ zulu_text o.0) plain)
