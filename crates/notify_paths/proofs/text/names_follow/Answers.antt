use Rattle.std.proofs.Common.{◌∙◌, ◌+◌, ◌&&◌, ap, sym, drop}
use Rattle.notify_paths.specs.TextSteps.{names_follow}
use Rattle.notify_paths.proofs.Normals.{follow_step}
use Rattle.notify_paths.proofs.text.names_follow.Goals as goal

pub loop-i-preserved : goal.loop-i-preserved
loop-i-preserved c =
    let text = c.args.text.now in
    let i = c.loop-i.i in
    c.loop-i.invariant ∙ follow_step text i c.loop-i-test.true
    ∙ ap (λ b. b && names_follow (drop (i + 1) text)) (sym c.name_follows.ensures ∙ c.if-not-name_follows.false)
