use Rattle.std.proofs.Common.{◌≡◌, ◌++◌, [], length}
use Rattle.std.specs.Vec.Iter.{into_iter_items, into_iter_len}
use Rattle.program_logic.specs.Trigger.Steps.{lines_of, left_of}
use Rattle.program_logic.specs.Trigger.StepsView.{step_values, line_values}
use Rattle.program_logic.proofs.trigger.step.play.Given as goal

-- the lines so far and those of the steps that are left are all lines
abbrev pub invariant-loop-step : goal.invariant-loop-step
invariant-loop-step l = record {
  lines : line_values l.lines.items ++ lines_of l.trigger (step_values (into_iter_items l.step-iterator))
      ≡ lines_of [] (step_values l.fn.steps.items);
  left : left_of l.trigger (step_values (into_iter_items l.step-iterator))
      ≡ left_of [] (step_values l.fn.steps.items);
  counted : length (into_iter_items l.step-iterator) ≡ into_iter_len l.step-iterator;
}
