use Rattle.std.proofs.Common.{◌≡◌, ◌∙◌, sym, refl, None}
use Rattle.debounce_c.specs.Desk.Faults.{text_fault}
use Rattle.debounce_c.proofs.DeskLemmas.OutcomeLemmas.{stepped}
use Rattle.debounce_c.proofs.desk.calls.unwatch.Goals as goal

pub returns-in-Ok : goal.returns-in-Ok
returns-in-Ok c =
    let is_text = sym c.is_text.ensures ∙ c.if-not-is_text.false in
    let none : text_fault c.args.bytes.now ≡ None = rw is_text refl in
    stepped c.unwatch.result _ _ _ _ _ _ none (λ p q.
    (rw c.in-Ok.ensures.ok at p, rw c.in-Ok.ensures.ok at q)) c.unwatch.ensures.ok
    c.unwatch.ensures.rest c.unwatch.ensures.err
