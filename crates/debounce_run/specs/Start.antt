-- Why a debouncer isn't started, and how often it ticks.
use Rattle.std.specs.Prelude.{◌≡◌, ◌<◌, ◌/◌, ◌⊎◌, ℕ, [], Option, Some, None}
use Rattle.std.specs.Duration.{as_nanos}
use Rattle.std.specs.declared.time.Duration.{Duration}
use Rattle.notify_paths.specs.Errors.{ErrorValue, GenericKind, out_of_memory}
use Rattle.debounce_run.specs.Turns.Clock.{IsIo}

-- why a debouncer with a fit tick rate isn't started: an allocation, a clock or a thread, or its watcher
abbrev pub IsStopped : (ErrorValue → Type 0) → ErrorValue → Type 0
IsStopped refuses error = (error ≡ out_of_memory) ⊎ (IsIo error ⊎ refuses error)

-- the tick rate that was asked for is above the timeout
abbrev pub IsTooSlow : Duration → Option Duration → Type 0
IsTooSlow timeout None = ⊥
IsTooSlow timeout (Some rate) = as_nanos timeout < as_nanos rate

-- what is answered then
abbrev pub too_slow : ErrorValue
too_slow = record { kind = GenericKind []; paths = [] }

-- why a debouncer isn't started: its tick rate, an allocation, a clock or a thread, or its watcher
abbrev pub IsStartError : (ErrorValue → Type 0) → Duration → Option Duration → ErrorValue → Type 0
IsStartError refuses timeout tick_rate error =
    ((error ≡ too_slow) × IsTooSlow timeout tick_rate) ⊎ IsStopped refuses error

-- how long the worker sleeps, in nanoseconds: the tick rate, and else a quarter of the timeout
abbrev pub tick_nanos : Duration → Option Duration → ℕ
tick_nanos timeout None = as_nanos timeout / 4
tick_nanos timeout (Some rate) = as_nanos rate
