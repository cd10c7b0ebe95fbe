use Rattle.std.proofs.Common.{◌∙◌, ap, ◌*◌}
use Rattle.program_frame.proofs.pace.milliseconds_of.Goals as goal

pub returns-clause-number : goal.returns-clause-number
returns-clause-number c n given = c.from_millis.ensures ∙ ap (λ ms. ms * 1000000) (c.number_of.ensures.number n given)
