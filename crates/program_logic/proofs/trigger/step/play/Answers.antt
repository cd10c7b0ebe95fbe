use Rattle.std.proofs.Common.{◌≡◌, ◌∙◌, ap, []}
use Rattle.std.proofs.lemmas.List.{nil_from_length}
use Rattle.std.specs.Vec.Iter.{into_iter_items}
use Rattle.program_logic.specs.Trigger.StepsView.{step_values, line_values}
use Rattle.program_logic.proofs.TriggerLemmas.Playing.{all_once, all_some}
use Rattle.program_logic.proofs.trigger.step.play.Goals as goal

pub returns-clause-once : goal.returns-clause-once
returns-clause-once c =
    let i = c.loop-step.invariant in
    let rest = into_iter_items c.loop-step.step-iterator in
    let none : rest ≡ [] = nil_from_length rest (i.counted ∙ c.in-None.ensures.steps.0) in
    all_once (line_values c.loop-step.lines.items) c.loop-step.trigger
    (step_values rest) (step_values c.args.steps.items) (ap step_values none) i.lines i.left

pub returns-clause-some : goal.returns-clause-some
returns-clause-some c =
    let i = c.loop-step.invariant in
    let rest = into_iter_items c.loop-step.step-iterator in
    let none : rest ≡ [] = nil_from_length rest (i.counted ∙ c.in-None.ensures.steps.0) in
    all_some (line_values c.loop-step.lines.items) c.loop-step.trigger
    (step_values rest) (step_values c.args.steps.items) (ap step_values none) i.lines i.left
