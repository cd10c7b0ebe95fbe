-- How a run ends that can't begin, or can't go on: its exit status, and its line on standard error.
use Rattle.std.specs.Prelude.{◌≡◌, ℕ, List, [], ◌∷◌, ◌++◌, codes, Option, IfSome}
use Rattle.std.specs.Fmt.{decimal}
use Rattle.mirror_run.specs.Script.{Outcome, Fails, script_of}
use Rattle.mirror_run.specs.declared.script.fault.Fault.{Fault}
use Rattle.mirror_run.specs.declared.script.fault.Fault.TheVariants.{Usage, NotUtf8, CannotRead, NotCommand, Memory, CannotWatch, OutputFailed, NoThread}

-- the exit status
abbrev pub fault_status : Fault → ℕ
fault_status CannotRead = 1
fault_status Usage = 2
fault_status NotUtf8 = 2
fault_status (NotCommand line) = 3
fault_status Memory = 4
fault_status CannotWatch = 5
fault_status OutputFailed = 6
fault_status NoThread = 8

-- the line, for a script or a folder of this name; there is none if the output failed
abbrev pub fault_line : List ℕ → Fault → List ℕ
fault_line name Usage = codes "usage: mirror SCRIPT | --check SCRIPT | --threads SCRIPT.. | --watch DIR TICKS\n"
fault_line name NotUtf8 = codes "mirror: an argument is not UTF-8\n"
fault_line name CannotRead = codes "mirror: cannot read " ++ (name ++ (10 ∷ []))
fault_line name (NotCommand line) =
    codes "mirror: " ++ (name ++ (codes ": line " ++ (decimal line ++ codes ": not a command\n")))
fault_line name Memory = codes "mirror: out of memory\n"
fault_line name CannotWatch = codes "mirror: cannot watch " ++ (name ++ (10 ∷ []))
fault_line name OutputFailed = []
fault_line name NoThread = codes "mirror: cannot start a thread\n"

-- a text is not read as a script because of this fault: it fails at the line named, or memory ran out
abbrev pub IsScriptFault : Outcome → Fault → Type 0
IsScriptFault outcome (NotCommand line) = outcome ≡ Fails line
IsScriptFault outcome Memory = Unit {0}
IsScriptFault outcome other = ⊥

-- a reader's bytes, if they are known, are not read as a script because of this fault, or can't be read
abbrev pub IsReadFault : Option (List ℕ) → Fault → Type 0
IsReadFault bytes CannotRead = Unit {0}
IsReadFault bytes (NotCommand line) = IfSome bytes (λ given. script_of given ≡ Fails line)
IsReadFault bytes Memory = Unit {0}
IsReadFault bytes other = ⊥
