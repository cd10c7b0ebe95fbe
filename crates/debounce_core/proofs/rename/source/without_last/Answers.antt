-- All but the last, of events that are not none.
use Rattle.std.proofs.Common.{refl}
use Rattle.debounce_core.proofs.rename.source.without_last.Goals as goal

pub returns : goal.returns
returns g c = refl
