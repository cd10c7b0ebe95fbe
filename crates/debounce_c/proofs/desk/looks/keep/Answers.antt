use Rattle.std.proofs.Common.{◌≡◌, ◌∙◌, sym, refl, None}
use Rattle.debounce_c.specs.Desk.Faults.{text_fault}
use Rattle.debounce_c.proofs.DeskLemmas.LookSteps.{found_outcome}
use Rattle.debounce_c.proofs.desk.looks.keep.Goals as goal

pub returns-in-Ok : goal.returns-in-Ok
returns-in-Ok c =
    let is_text = sym c.is_text.ensures ∙ c.if-not-is_text.false in
    let none : text_fault c.args.bytes.now ≡ None = rw is_text refl in
    found_outcome c.keep.result _ _ _ _ _ none (rw c.in-Ok.ensures.ok at c.keep.ensures.ok)
    (rw c.in-Ok.ensures.ok at c.keep.ensures.err)
