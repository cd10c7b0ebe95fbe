-- How a watch ends: its exit status, and what it has printed.
use Rattle.std.specs.Prelude.{◌≡◌, ◌⊎◌, ℕ, Option, List}
use Rattle.mirror_run.specs.declared.script.fault.Fault.{Fault}
use Rattle.mirror_run.specs.declared.script.fault.Fault.TheVariants.{Memory, CannotWatch, OutputFailed, NoThread}

-- a watch ends with one of these
abbrev pub IsWatchStatus : ℕ → Type 0
IsWatchStatus n = (n ≡ 0) ⊎ ((n ≡ 4) ⊎ ((n ≡ 5) ⊎ ((n ≡ 6) ⊎ (n ≡ 8))))

-- why a watch stops: if the folder isn't watched, or a thread isn't started, nothing has been printed
abbrev pub IsWatchFault : Option (List ℕ) → Option (List ℕ) → Fault → Type 0
IsWatchFault old new Memory = Unit {0}
IsWatchFault old new CannotWatch = new ≡ old
IsWatchFault old new OutputFailed = Unit {0}
IsWatchFault old new NoThread = new ≡ old
IsWatchFault old new other = ⊥
