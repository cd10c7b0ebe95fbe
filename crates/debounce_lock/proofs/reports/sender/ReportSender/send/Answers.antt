use Rattle.std.proofs.Common.{◌∙◌, [], ◌∷◌, ◌++◌, refl, sym, ap}
use Rattle.debounce_lock.specs.Passes.{view}
use Rattle.debounce_lock.specs.Rights.{Emits}
use Rattle.debounce_lock.proofs.OneTeller.{may_add, picked_all}
use Rattle.debounce_lock.proofs.ReportsLemmas.Puts.{calls_one}
use Rattle.debounce_lock.proofs.reports.sender.ReportSender.send.Goals as goal

pub give-requires-clause-may : goal.give-requires-clause-may
give-requires-clause-may g c =
    let took = c.take-guard.ensures.took in
    let put = c.put-is_put_in in
    may_add _ _ _ _ (c.args.report, put.result) took.holds (took.tells ∙ c.self.invariant.1)
    (calls_one put.result _ _ _ _ _ _ c.args.report took.stands put.ensures.sent put.ensures.unsent
    c.counted.ensures) (refl, rw c.of-shown.ensures refl)

pub returns-clause-calls : goal.returns-clause-calls
returns-clause-calls g c =
    let took = c.take-guard.ensures.took in
    let gave = c.give.ensures.gave in
    let told = sym (picked_all (view c.take-guard.new.pass).seen) ∙ took.told Emits c.self.invariant.1
    ∙ picked_all (view c.self.inside.pass).seen in
    rw (← c.self.view_is) (gave.makes.1 ∙ ap (λ l. l ++ (c.of-shown.result.value, c.put-is_put_in.result) ∷ []) told
    ∙ ap (λ x. (view c.self.inside.pass).seen ++ (x, c.put-is_put_in.result) ∷ []) c.of-shown.ensures)
