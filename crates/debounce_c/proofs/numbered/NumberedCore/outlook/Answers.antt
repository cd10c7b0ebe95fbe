use Rattle.std.proofs.Common.{subst}
use Rattle.std.specs.Prelude.{IfOk}
use Rattle.debounce_model.specs.State.{Core}
use Rattle.debounce_model.specs.Tick.{IsOnlyOutlook}
use Rattle.debounce_c.specs.Numbered.Numbers.{Numbers}
use Rattle.debounce_c.proofs.numbered.NumberedCore.outlook.Goals as goal

pub returns-clause-only : goal.returns-clause-only
returns-clause-only c =
    subst (λ (k : Core Numbers). IfOk c.outlook.result (λ batch. IsOnlyOutlook k.state batch.items))
    c.self.view_is c.outlook.ensures.only
