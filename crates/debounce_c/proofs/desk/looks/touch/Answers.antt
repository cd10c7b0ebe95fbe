use Rattle.std.proofs.Common.{◌≡◌, ◌∙◌, sym, refl, None}
use Rattle.debounce_c.specs.Desk.Faults.{text_fault}
use Rattle.debounce_c.proofs.DeskLemmas.LookSteps.{said_outcome}
use Rattle.debounce_c.proofs.desk.looks.touch.Goals as goal

pub returns-in-Ok : goal.returns-in-Ok
returns-in-Ok c =
    let is_text = sym c.is_text.ensures ∙ c.if-not-is_text.false in
    let none : text_fault c.args.bytes.now ≡ None = rw is_text refl in
    said_outcome c.touch.result _ _ _ _ none (rw c.in-Ok.ensures.ok at c.touch.ensures.ok) c.touch.ensures.err
