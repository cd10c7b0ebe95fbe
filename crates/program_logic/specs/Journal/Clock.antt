-- The wall clock's time, as text.
use Rattle.std.specs.Prelude.{◌≡◌, ℕ, pos, false, List, ◌++◌, codes, Option, None, Some}
use Rattle.jiff_core.specs.DateTime.{civil_nanos}
use Rattle.jiff_core.specs.declared.civil.datetime.DateTime.{DateTime}
use Rattle.jiff_fmt.specs.Text.{datetime_text}

-- the text is the date and time in UTC so many nanoseconds after the beginning of 1970, with nine digits after the
-- second, and ends in `Z`
abbrev pub IsClockText : ℕ → List ℕ → Type 0
IsClockText nanos text =
    (dt : DateTime) × (civil_nanos dt ≡ pos nanos) × (text ≡ datetime_text false 84 (Some 9) dt ++ codes "Z")

-- the text of some time, if it is known
abbrev pub IsTime : Option (List ℕ) → Type 0
IsTime None = Unit {0}
IsTime (Some text) = (nanos : ℕ) × IsClockText nanos text
