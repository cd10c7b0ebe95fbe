-- What a call answers, and what it leaves. Assumes nothing: these are definitions.
use Rattle.std.specs.Prelude.{◌≡◌, ◌⊎◌, ℕ, Bool, true, Option, None, Some, Result, Ok, Err}
use Rattle.debounce_c.specs.Desk.Codes.{fault_code}
use Rattle.debounce_c.specs.Desk.{DeskValue}
use Rattle.debounce_c.specs.declared.desk.fault.Fault.{Fault}
use Rattle.debounce_c.specs.declared.desk.fault.Fault.TheVariants.{Empty, NoMemory}

-- a call with this fault, or with none, answers this one: its own; with none it may lack memory, if it needs some
abbrev pub IsFault : Option Fault → Bool → Fault → Type 0
IsFault None needs f = (f ≡ NoMemory) × (needs ≡ true)
IsFault (Some g) needs f = f ≡ g

-- what came of a call on s that left t: its step; or a fault, and the debouncer is as it was, with what else the
-- fault leaves
abbrev pub Outcome : Result (Unit {0}) Fault → Option Fault → Bool → (DeskValue → Type 0) → (Fault → Type 0)
    → DeskValue → DeskValue → Type 0
Outcome (Ok done) fault needs Step Kept s t = (fault ≡ None) × Step t
Outcome (Err f) fault needs Step Kept s t = IsFault fault needs f × (Kept f × (t ≡ s))

-- the code of a call on s with this fault: the fault's, and s is held; with none 0, and its step was taken, or
-- NO_MEMORY, if it needs some, and s is held
abbrev pub AnswersFor : ℕ → Option Fault → Bool → (DeskValue → Type 0) → (Fault → Type 0) → DeskValue → Option DeskValue
    → Type 0
AnswersFor code (Some f) needs Step Kept s new = (code ≡ fault_code f) × (Kept f × (new ≡ Some s))
AnswersFor code None needs Step Kept s new =
    ((t : DeskValue) × (code ≡ 0) × (new ≡ Some t) × Step t)
    ⊎ ((code ≡ fault_code NoMemory) × (needs ≡ true) × (Kept NoMemory × (new ≡ Some s)))

-- the code of a call on a handle: EMPTY, if it holds no debouncer, and else as above
abbrev pub Answers : ℕ → (DeskValue → Option Fault) → (DeskValue → Bool) → (DeskValue → DeskValue → Type 0)
    → (Fault → Type 0) → Option DeskValue → Option DeskValue → Type 0
Answers code fault needs Step Kept None new = (code ≡ fault_code Empty) × (Kept Empty × (new ≡ None))
Answers code fault needs Step Kept (Some s) new = AnswersFor code (fault s) (needs s) (Step s) Kept s new
