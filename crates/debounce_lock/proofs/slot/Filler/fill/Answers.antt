use Rattle.std.proofs.Common.{◌∙◌, [], ◌∷◌, ◌++◌, refl, sym, ap}
use Rattle.std.specs.Option.{option_to_list}
use Rattle.debounce_lock.specs.Passes.{view}
use Rattle.debounce_lock.specs.Rights.{Emits}
use Rattle.debounce_lock.proofs.OneTeller.{may_add, picked_all}
use Rattle.debounce_lock.proofs.Slots.{none_out, puts_first}
use Rattle.debounce_lock.proofs.slot.Filler.fill.Goals as goal

-- the slot was empty, and nothing had come out
pub give-requires-clause-may : goal.give-requires-clause-may
give-requires-clause-may g c =
    let took = c.take-guard.ensures.took in
    let seen = sym (picked_all (view c.take-guard.new.pass).seen) ∙ took.told Emits c.self.invariant.1
    ∙ picked_all (view c.self.inside.pass).seen ∙ c.self.invariant.2 in
    let out = none_out (view c.take-guard.new.pass).taken (option_to_list c.take-guard.result.1.value)
    (took.stands ∙ seen) in
    may_add _ _ _ _ c.args.value took.holds (took.tells ∙ c.self.invariant.1)
    (puts_first _ _ c.args.value out seen) (refl, refl)

pub invariant_of-result : goal.invariant_of-result
invariant_of-result g c =
    let took = c.take-guard.ensures.took in
    let gave = c.give.ensures.gave in
    let seen = sym (picked_all (view c.take-guard.new.pass).seen) ∙ took.told Emits c.self.invariant.1
    ∙ picked_all (view c.self.inside.pass).seen ∙ c.self.invariant.2 in (
      c.give.ensures.lock.1,
      gave.tells ∙ took.tells ∙ c.self.invariant.1,
      rw (c.of-shown.ensures) (gave.makes.0 ∙ ap (λ l. l ++ c.args.value ∷ []) seen),
    )
