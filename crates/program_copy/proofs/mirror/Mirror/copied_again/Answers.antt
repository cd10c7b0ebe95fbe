use Rattle.std.proofs.Common.{◌+◌, drop, subst, sym}
use Rattle.program_copy.proofs.AnewLemmas.{AreAgain, again_next}
use Rattle.program_copy.proofs.mirror.Mirror.copied_again.Goals as goal

pub loop-path-preserved : goal.loop-path-preserved
loop-path-preserved g c =
    let paths = c.deref-path-items.result.now in
    subst (λ events. AreAgain c.args.self.now.kept.copied events (drop (c.loop-path.path-index + 1) paths))
    (sym c.in_ok-name_again.ensures) (again_next c.args.self.now.kept.copied c.loop-path.batch.items paths
    c.loop-path.path-index c.path-item.result _ c.loop-path-test.true c.path-item.is c.loop-path.invariant)
