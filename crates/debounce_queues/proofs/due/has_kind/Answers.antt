-- One of the events has the kind.
use Rattle.std.proofs.Common.{rules}
use Rattle.std.proofs.lemmas.Iterator.{YieldsList-from_slice}
use Rattle.std.proofs.lemmas.Iterator.Search.{any_from_yields_List}
use Rattle.notify_types.specs.KindNumbers.{kind_eq}
use Rattle.debounce_queues.proofs.due.has_kind.Goals as goal

pub returns : goal.returns
returns g c =
    any_from_yields_List (λ y. kind_eq c.args.kind y.event.kind) _ _ _ c.any.ensures.ran
    (YieldsList-from_slice c.args.events.now (cc))
    (λ x b q k. search rules depth 3)
