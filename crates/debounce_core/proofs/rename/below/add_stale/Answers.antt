-- The path is stale if no queue waits at the same place below the source.
use Rattle.std.proofs.Common.{rules}
use Rattle.debounce_core.proofs.rename.below.add_stale.Goals as goal

pub returns : goal.returns
returns g c = search rules depth 2
