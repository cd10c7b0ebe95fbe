-- What the steps and the lines of the code are.
use Rattle.std.specs.Prelude.{List, map}
use Rattle.std.specs.declared.alloc.Global.{Global}
use Rattle.std.specs.declared.vec.Vec.{Vec}
use Rattle.notify_types.specs.Event.{Timed}
use Rattle.program_logic.specs.declared.trigger.step.Step.{Step}
use Rattle.program_logic.specs.declared.trigger.step.Step.TheVariants.{Batch, Line}
use Rattle.program_logic.specs.Trigger.Steps.{StepValue, BatchStep, LineStep}

-- a step of the code as a value
abbrev pub step_value : Step → StepValue
step_value (Batch batch) = BatchStep batch.items
step_value Line = LineStep

-- the same for each of them
abbrev pub step_values : List Step → List StepValue
step_values steps = map step_value steps

-- lines of the code as lists
abbrev pub line_values : List (Vec Timed Global) → List (List Timed)
line_values lines = map (λ line. line.items) lines
