-- How a run ends: its exit status, and what it has printed.
use Rattle.std.specs.Prelude.{◌≡◌, ◌⊎◌, ℕ, Option, List, Result, Ok, Err, IfSome}
use Rattle.mirror_run.specs.Script.Faults.{fault_status}
use Rattle.mirror_run.specs.Script.{Fails, script_of}
use Rattle.mirror_run.specs.declared.script.fault.Fault.{Fault}
use Rattle.mirror_run.specs.declared.script.fault.Fault.TheVariants.{CannotRead, NotCommand, Memory, OutputFailed}
use Rattle.mirror_run.specs.declared.transcript.Report.{Report}
use Rattle.mirror_run.specs.Transcript.{BeginsRun, StopsRun}

-- the exit status
abbrev pub status_of : {A : Type 0} → Result A Fault → ℕ
status_of (Ok x) = 0
status_of (Err fault) = fault_status fault

-- a run that was read or not ends with one of these
abbrev pub IsRunStatus : ℕ → Type 0
IsRunStatus n = (n ≡ 0) ⊎ ((n ≡ 1) ⊎ ((n ≡ 3) ⊎ ((n ≡ 4) ⊎ (n ≡ 6))))

-- what has been printed of the bytes' script if a run stops because of this fault: nothing, or a beginning
abbrev pub IsStopped : Report → Option (List ℕ) → Option (List ℕ) → Option (List ℕ) → Fault → Type 0
IsStopped report bytes old new CannotRead = new ≡ old
IsStopped report bytes old new (NotCommand line) =
    (new ≡ old) × IfSome bytes (λ given. script_of given ≡ Fails line)
IsStopped report bytes old new Memory = StopsRun report bytes old new
IsStopped report bytes old new OutputFailed = BeginsRun report bytes old new
IsStopped report bytes old new other = ⊥
