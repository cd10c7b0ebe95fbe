use Rattle.std.proofs.Common.{◌≡◌, sym, None}
use Rattle.debounce_c.specs.Desk.Looks.{found_fault}
use Rattle.debounce_c.proofs.DeskLemmas.LookSteps.{found_outcome}
use Rattle.debounce_c.proofs.desk.looks.find.Goals as goal

pub returns-in-Ok : goal.returns-in-Ok
returns-in-Ok c =
    let none : found_fault c.args.stands.now c.args.bytes.now ≡ None = sym c.in_default.ensures in
    found_outcome c.find.result _ _ _ _ _ none (rw (c.in-Ok.ensures.ok, c.found_of.ensures) at c.find.ensures.ok)
    (rw c.in-Ok.ensures.ok at c.find.ensures.err)
