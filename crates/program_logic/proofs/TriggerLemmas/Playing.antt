-- What becomes of the events that are handed to a trigger. The functions that do steps cite these.
use Rattle.std.proofs.Common.{◌≡◌, ◌∙◌, sym, ap, subst, refl, true≢false}
use Rattle.std.proofs.Common.{List, [], ◌∷◌, ◌++◌, ◌==◌, length, append_assoc, append-nil}
use Rattle.std.specs.List.{All}
use Rattle.std.proofs.lemmas.List.Elements.{All-nil, All-cons}
use Rattle.std.proofs.Math.Dec.{eqb-suc-zero}
use Rattle.notify_types.specs.Event.{Timed}
use Rattle.program_logic.specs.Trigger.Steps.{StepValue, BatchStep, LineStep, IsLine, Does}
use Rattle.program_logic.specs.Trigger.Steps.{line_before, lines_of, left_of, handed, joined}

-- the lines and what is left are what waited and what was handed in
pub once : (waiting : List Timed) (steps : List StepValue)
    → joined (lines_of waiting steps) ++ left_of waiting steps ≡ waiting ++ handed steps
once waiting [] = sym (append-nil waiting)
once waiting (BatchStep batch ∷ steps) = once (waiting ++ batch) steps
    ∙ append_assoc waiting batch (handed steps)
once [] (LineStep ∷ steps) = once [] steps
once (x ∷ xs) (LineStep ∷ steps) =
    append_assoc (x ∷ xs) (joined (lines_of [] steps)) (left_of [] steps)
    ∙ ap (λ k. (x ∷ xs) ++ k) (once [] steps)

-- no line is about nothing
pub all_lines : (waiting : List Timed) (steps : List StepValue) → All IsLine (lines_of waiting steps)
all_lines waiting [] = All-nil IsLine
all_lines waiting (BatchStep batch ∷ steps) = all_lines (waiting ++ batch) steps
all_lines [] (LineStep ∷ steps) = all_lines [] steps
all_lines (x ∷ xs) (LineStep ∷ steps) =
    All-cons IsLine (x ∷ xs) (lines_of [] steps) (eqb-suc-zero (length xs)) (all_lines [] steps)

-- where nothing waits there is no line
pub no_line : (waiting : List Timed) (lines : List (List Timed)) → waiting ≡ []
    → lines ≡ lines ++ line_before waiting []
no_line waiting lines e = rw e (sym (append-nil lines))

-- where something waits there is one
pub one_line : (waiting line : List Timed) (lines : List (List Timed)) → line ≡ waiting → IsLine line
    → lines ++ line ∷ [] ≡ lines ++ line_before waiting []
one_line [] line lines e some = absurd (true≢false (sym (ap (λ k. length k == 0) e) ∙ some))
one_line (x ∷ xs) line lines e some = ap (λ k. lines ++ k ∷ []) e

-- a line of what waits goes before the later lines
line_first : (waiting : List Timed) (later : List (List Timed))
    → line_before waiting later ≡ line_before waiting [] ++ later
line_first [] later = refl
line_first (x ∷ xs) later = refl

-- the lines so far, and those of the steps that are left, after one step more
pub lines_more : (step : StepValue) (steps : List StepValue) (w w' : List Timed)
    → (lines lines' : List (List Timed)) → Does step w lines w' lines'
    → lines' ++ lines_of w' steps ≡ lines ++ lines_of w (step ∷ steps)
lines_more (BatchStep batch) steps w w' lines lines' does = rw (does.0, does.1) refl
lines_more LineStep steps w w' lines lines' does =
    rw (does.0, does.1) (append_assoc lines (line_before w []) (lines_of [] steps)
    ∙ ap (λ k. lines ++ k) (sym (line_first w (lines_of [] steps))))

-- what is left after the steps, after one step more
pub left_more : (step : StepValue) (steps : List StepValue) (w w' : List Timed)
    → (lines lines' : List (List Timed)) → Does step w lines w' lines'
    → left_of w' steps ≡ left_of w (step ∷ steps)
left_more (BatchStep batch) steps w w' lines lines' does = rw does.0 refl
left_more LineStep steps w w' lines lines' does = rw does.0 refl

-- at the end no step is left
module _ (lines : List (List Timed)) (w : List Timed) (rest all : List StepValue) (none : rest ≡ [])
    (taken : lines ++ lines_of w rest ≡ lines_of [] all) (waits : left_of w rest ≡ left_of [] all) where
  all_taken : lines ≡ lines_of [] all
  all_taken = sym (append-nil lines) ∙ ap (λ r. lines ++ lines_of w r) (sym none) ∙ taken

  all_left : w ≡ left_of [] all
  all_left = ap (λ r. left_of w r) (sym none) ∙ waits

  pub all_once : joined lines ++ w ≡ handed all
  all_once = rw (all_taken, all_left) (once [] all)

  pub all_some : All IsLine lines
  all_some = subst (All IsLine) (sym all_taken) (all_lines [] all)
