use Rattle.std.proofs.Common.{◌∙◌}
use Rattle.debounce_lock.specs.Passes.{view}
use Rattle.debounce_lock.specs.Rights.{Emits}
use Rattle.debounce_run.proofs.AccessLemmas.Gives.{may_stay_beside}
use Rattle.debounce_run.proofs.AccessLemmas.Steps.{gives_journal}
use Rattle.debounce_run.proofs.access.Access.journal.Goals as goal

pub give-requires-clause-may : goal.give-requires-clause-may
give-requires-clause-may g c =
    let took = c.take-guard.ensures.took in
    may_stay_beside (view c.take-guard.new.pass) (view c.args.teller) (view c.compare.new.pass) c.take-guard.result.1
    c.compare.ensures.same took.holds took.stands

pub returns-clause-left : goal.returns-clause-left
returns-clause-left g c =
    let took = c.take-guard.ensures.took in
    rw (← c.self.view_is) (λ keeps first. gives_journal c.deref-3.result.now c.take-guard.result.1.missed
    (view c.self.inside.pass).seen (view c.args.teller).seen (view c.take-guard.new.pass).taken
    (view c.take-guard.new.pass).seen c.journal-journal.result took.goes_on c.compare.ensures.begins
    (c.compare.ensures.told Emits c.requires.tells) (rw (← c.deref-3.ensures) at took.stands) (took.taken keeps ∙ first)
    c.journal-journal.ensures.ok)
