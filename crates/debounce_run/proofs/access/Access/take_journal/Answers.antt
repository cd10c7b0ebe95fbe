use Rattle.std.proofs.Common.{◌∙◌}
use Rattle.debounce_lock.specs.Passes.{view}
use Rattle.debounce_book.proofs.Shown.{IsPart-written}
use Rattle.debounce_run.proofs.AccessLemmas.Gives.{goes_on_by, may_take, taken_out, whole_out}
use Rattle.debounce_run.proofs.access.Access.take_journal.Goals as goal

pub give-requires-clause-may : goal.give-requires-clause-may
give-requires-clause-may g c =
    let took = c.take-guard.ensures.took in
    may_take _ _ c.deref_mut.result.now took.holds (took.keeps ∙ (rw (← c.self.view_is) at c.requires))
    (rw (← c.deref_mut.ensures.value) at took.stands) c.take_journal-entries.ensures.parted

pub returns-clause-on : goal.returns-clause-on
returns-clause-on g c =
    let took = c.take-guard.ensures.took in
    let gave = c.give.ensures.gave in
    rw (← c.self.view_is) (goes_on_by _ c.self.inside.pass.table_id c.give.new.pass.table_id _ _ _ _ _ (cc) took gave)

pub returns-clause-parts : goal.returns-clause-parts
returns-clause-parts g c =
    let took = c.take-guard.ensures.took in
    let gave = c.give.ensures.gave in
    let taken = c.take_journal-entries in
    let keeps = rw (← c.self.view_is) at c.requires in
    rw (← c.self.view_is) (taken_out c.deref_mut.result.now taken.new.self c.take-guard.result.1.missed
    (view c.take-guard.new.pass).taken (view c.self.inside.pass).taken (view c.take-guard.new.pass).seen
    (view c.give.new.pass).taken taken.result.items
    (rw (← c.deref_mut.ensures.value) at took.stands) taken.ensures.parted gave.makes.1 (took.taken keeps)
    taken.ensures.journal)

pub returns-clause-taken : goal.returns-clause-taken
returns-clause-taken g c =
    let took = c.take-guard.ensures.took in
    let gave = c.give.ensures.gave in
    let taken = c.take_journal-entries in
    whole_out c.deref_mut.result.now taken.new.self c.take-guard.result.1.missed (view c.take-guard.new.pass).taken
    (view c.take-guard.new.pass).seen (view c.give.new.pass).taken (view c.give.new.pass).seen
    (rw (← c.deref_mut.ensures.value) at took.stands) taken.ensures.parted gave.makes.1 gave.makes.0

pub returns-clause-part : goal.returns-clause-part
returns-clause-part g c =
    let taken = c.take_journal-entries.ensures in
    rw taken.journal (IsPart-written _ _ _ taken.legal taken.part)
