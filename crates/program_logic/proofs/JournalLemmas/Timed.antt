-- A time that is known or not, and two facts of one success. What is written at some time cites these.
use Rattle.std.specs.Prelude.{ℕ, Option, None, Some, option_map, IfSome, Result, Ok, Err, OnOk}
use Rattle.arrayvec.specs.ArrayString.{ArrayString}
use Rattle.program_logic.specs.Journal.Clock.{IsClockText, IsTime}

-- the text of these nanoseconds
pub time_is : (text : Option ArrayString) (nanos : ℕ) → IfSome text (λ t. IsClockText nanos t.bytes)
    → IsTime (option_map (λ t. t.bytes) text)
time_is None nanos known = known
time_is (Some text) nanos known = (nanos, known)

-- both facts
pub on_ok_both : {T E : Type 0} (P Q : Type 0) (r : Result T E) → OnOk r P → OnOk r Q → OnOk r (P × Q)
on_ok_both P Q (Ok value) p q = (p, q)
on_ok_both P Q (Err error) p q = p
