-- What is noted of calls of folders that fail.
use Rattle.std.specs.Prelude.{◌≡◌, Option, Some, None, Result, Ok, Err}
use Rattle.notify_paths.specs.Errors.{ErrorValue}
use Rattle.notify_paths.specs.Path.{PathValue}

-- the path is noted, or there was no memory for it, and none is
abbrev pub IsNoted : PathValue → Option PathValue → Type 0
IsNoted path None = Unit {0}
IsNoted path (Some noted) = noted ≡ path

-- a call at the path that fails is noted, as far as there is memory, and another one leaves what was noted before
abbrev pub Notes : {X : Type 0} → PathValue → Result X ErrorValue → Option PathValue → Option PathValue → Type 0
Notes path (Ok found) before after = after ≡ before
Notes path (Err error) before after = IsNoted path after
