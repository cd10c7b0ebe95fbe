-- What may be changed where a file is copied: its place, and what lies beside. The functions that copy a file cite
-- these.
use Rattle.std.proofs.Common.{◌≡◌, Bool, false, inl, inr}
use Rattle.std.specs.Prelude.{◌⊎◌}
use Rattle.notify_paths.specs.Path.{PathValue}
use Rattle.program_copy.specs.Files.Writes.{IsAt, IsAtOrBeside, IsPartial, IsPlaceOrBeside}

-- the place alone
pub at_beside : (dry_run : Bool) (to target path : PathValue) → IsAt dry_run target path →
    IsAtOrBeside dry_run to target path
at_beside dry_run to target path h = (h.0, inl h.1)

-- a name beside alone
pub partial_beside : (to target path : PathValue) → IsPartial to path → IsPlaceOrBeside to target path
partial_beside to target path h = inr h

-- where this is no dry run
pub place_beside : (dry_run : Bool) (to target : PathValue) → dry_run ≡ false → (path : PathValue) →
    IsPlaceOrBeside to target path → IsAtOrBeside dry_run to target path
place_beside dry_run to target d path h = (d, h)
