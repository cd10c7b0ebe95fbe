-- Newer first, then by the path.
use Rattle.std.proofs.Common.{rules}
use Rattle.debounce_queues.proofs.front.FrontOrd.cmp.Goals as goal

pub returns : goal.returns
returns g c = search rules
