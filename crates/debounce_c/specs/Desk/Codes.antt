-- The codes that a call answers, as c/ndf.h names them. Assumes nothing: these are definitions.
use Rattle.std.specs.Prelude.{ℕ, Result, Ok, Err}
use Rattle.debounce_c.specs.declared.desk.fault.Fault.{Fault}
use Rattle.debounce_c.specs.declared.desk.fault.Fault.TheVariants.{Empty, NoMemory, Full, NotText, NoKind, Unread, AtEnd, TooShort, TooManyPaths, BadCounts, NoFolder, Unfed, Begun}

-- the code of a fault
abbrev pub fault_code : Fault → ℕ
fault_code Empty = 1
fault_code NoMemory = 2
fault_code Full = 3
fault_code NotText = 4
fault_code NoKind = 5
fault_code Unread = 6
fault_code AtEnd = 7
fault_code TooShort = 8
fault_code TooManyPaths = 9
fault_code BadCounts = 10
fault_code NoFolder = 11
fault_code Unfed = 12
fault_code Begun = 13

-- the code of an outcome: 0 if the call did what it says
abbrev pub answer_code : Result (Unit {0}) Fault → ℕ
answer_code (Ok done) = 0
answer_code (Err fault) = fault_code fault
