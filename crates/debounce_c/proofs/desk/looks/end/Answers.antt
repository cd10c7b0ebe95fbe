use Rattle.std.proofs.Common.{◌∙◌, sym}
use Rattle.debounce_c.proofs.DeskLemmas.LookSteps.{ended_step}
use Rattle.debounce_c.proofs.desk.looks.end.Goals as goal

pub returns-in-Ok : goal.returns-in-Ok
returns-in-Ok c =
    ended_step _ _ _ (sym c.has_unfed.ensures ∙ c.if-has_unfed.false) c.in-Ok.ensures.ok c.in-Ok.ensures.leads
    c.in-Ok.ensures.count
