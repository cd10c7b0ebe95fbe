-- The row of the case, and one more event is counted.
use Rattle.std.proofs.Common.{◌+◌, refl, ap}
use Rattle.debounce_model.specs.State.{State}
use Rattle.debounce_model.proofs.StateLemmas.{well_formed_after}
use Rattle.debounce_core.specs.StateView.{state_of}
use Rattle.debounce_core.proofs.state.State.take.Goals as goal

pub invariant_of-self-2 : goal.invariant_of-self-2
invariant_of-self-2 g c =
    let a = c.self.inside in
    let s = state_of a.pending a.roots.items a.errors.items a.timeout a.latest a.taken a.given in
    let done = c.in_ok-take.ensures.ok s in
    well_formed_after c.args.case _ _ c.args.event c.args.answer c.requires.fits c.self.invariant
    (ap (λ (t : State). t.queues) done) (ap (λ (t : State). t.rescan_slot) done) (ap (λ (t : State). t.given) done)
    refl

pub returns-clause-ok : goal.returns-clause-ok
returns-clause-ok g c =
    let a = c.self.inside in
    let s = state_of a.pending a.roots.items a.errors.items a.timeout a.latest a.taken a.given in
    let done = c.in_ok-take.ensures.ok s in
    rw (← c.self.view_is, c.time-time.ensures)
    (ap (λ (t : State). record t { latest = c.args.event.time; taken = a.taken + 1 }) done)
