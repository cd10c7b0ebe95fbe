-- Modified times beside a clock, in nanoseconds since 1970.
use Rattle.std.specs.Prelude.{◌≤◌, ◌+◌, ℕ}

-- the time was a step, of 11 milliseconds, old at the moment `passed`
abbrev pub IsOld : ℕ → ℕ → Type 0
IsOld modified passed = modified + 11_000_000 ≤ passed

-- the time lies a step ahead of the moment `passed`
abbrev pub IsAhead : ℕ → ℕ → Type 0
IsAhead modified passed = passed + 11_000_000 ≤ modified
