use Rattle.std.proofs.Common.{subst}
use Rattle.std.specs.Prelude.{IfOk}
use Rattle.debounce_model.specs.State.{Core}
use Rattle.debounce_model.specs.Tick.{IsOnlyBatch}
use Rattle.debounce_c.specs.Numbered.Numbers.{Numbers}
use Rattle.debounce_c.proofs.numbered.NumberedCore.debounced_events.Goals as goal

pub returns-clause-only : goal.returns-clause-only
returns-clause-only c =
    subst (λ (k : Core Numbers). IfOk c.debounced_events.result (λ batch. IsOnlyBatch k.state c.args.now batch.items))
    c.self.view_is c.debounced_events.ensures.only
