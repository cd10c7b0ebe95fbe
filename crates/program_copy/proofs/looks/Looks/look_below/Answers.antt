use Rattle.std.proofs.Common.{◌∙◌}
use Rattle.program_copy.proofs.looks.Looks.look_below.Goals as goal

pub loop-below-preserved : goal.loop-below-preserved
loop-below-preserved g c = record {
  wanted = c.in_ok-look.ensures.wanted ∙ c.loop-below.invariant.wanted;
  stay = λ q k. c.in_ok-look.ensures.stay q (c.loop-below.invariant.stay q k);
  seen = λ before. c.in_ok-look.ensures.seen (c.loop-below.invariant.seen before);
}
