-- What becomes of the events that are handed to a trigger.
use Rattle.std.specs.Prelude.{◌≡◌, List, [], ◌∷◌, ◌++◌, ◌==◌, length, false}
use Rattle.notify_types.specs.Event.{Timed}

-- what happens to a trigger: a batch is handed in, or a line is asked for
pub data StepValue : Type 0 where
  BatchStep : (batch : List Timed) → StepValue
  LineStep : StepValue

-- the line of what waits, and then the later lines; there is no line of nothing
abbrev pub line_before : List Timed → List (List Timed) → List (List Timed)
line_before [] lines = lines
line_before (event ∷ waiting) lines = (event ∷ waiting) ∷ lines

-- the lines that these steps take, if these events wait before them
abbrev pub lines_of : List Timed → List StepValue → List (List Timed)
lines_of waiting [] = []
lines_of waiting (BatchStep batch ∷ steps) = lines_of (waiting ++ batch) steps
lines_of waiting (LineStep ∷ steps) = line_before waiting (lines_of [] steps)

-- what waits after these steps, if these events wait before them
abbrev pub left_of : List Timed → List StepValue → List Timed
left_of waiting [] = waiting
left_of waiting (BatchStep batch ∷ steps) = left_of (waiting ++ batch) steps
left_of waiting (LineStep ∷ steps) = left_of [] steps

-- what these steps hand in, in order
abbrev pub handed : List StepValue → List Timed
handed [] = []
handed (BatchStep batch ∷ steps) = batch ++ handed steps
handed (LineStep ∷ steps) = handed steps

-- a line is about some event
abbrev pub IsLine : List Timed → Type 0
IsLine line = (length line == 0) ≡ false

-- one step: it turns what waits, and the lines that were taken, into these
abbrev pub Does : StepValue → List Timed → List (List Timed) → List Timed → List (List Timed) → Type 0
Does (BatchStep batch) waiting lines waiting' lines' =
    (waiting' ≡ waiting ++ batch) × (lines' ≡ lines)
Does LineStep waiting lines waiting' lines' =
    (waiting' ≡ []) × (lines' ≡ lines ++ line_before waiting [])

-- the events of these lines, one line after the other
abbrev pub joined : List (List Timed) → List Timed
joined [] = []
joined (line ∷ lines) = line ++ joined lines
