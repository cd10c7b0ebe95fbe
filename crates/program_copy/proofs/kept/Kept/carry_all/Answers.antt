use Rattle.std.proofs.Common.{◌∙◌, refl}
use Rattle.program_copy.proofs.MovingLemmas.{both_then, others_more, others_none}
use Rattle.program_copy.proofs.kept.Kept.carry_all.Goals as goal

pub loop-path-init : goal.loop-path-init
loop-path-init g c = record { same = refl; both = λ q h. refl; others = others_none _ _ _ _ }

pub loop-path-preserved : goal.loop-path-preserved
loop-path-preserved g c = record {
  same = c.carry_one.ensures.same ∙ c.loop-path.invariant.same;
  both = both_then c.args.found.now _ _ _ c.loop-path.invariant.both c.in_ok-carry_one.ensures.both;
  others = others_more _ _ _ _ _ _ _ _ c.loop-path.invariant.others c.in_ok-carry_one.ensures.others;
}
