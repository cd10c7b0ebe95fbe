use Rattle.std.proofs.Common.{◌∙◌, refl, [], ◌∷◌}
use Rattle.debounce_lock.specs.Rights.{Feeds}
use Rattle.debounce_run.specs.Access.Happened.{Missed}
use Rattle.debounce_run.proofs.AccessLemmas.Gives.{lasts_by, feeds_quiet, may_go, miss_gains}
use Rattle.debounce_run.proofs.AccessLemmas.Steps.{miss_stands}
use Rattle.debounce_run.proofs.access.Access.miss.Goals as goal

pub give-requires-clause-may : goal.give-requires-clause-may
give-requires-clause-may g c =
    let took = c.take-guard.ensures.took in
    may_go _ _ (Missed ∷ []) took.holds (rw c.of-held.ensures refl)
    (rw c.saturating_add.ensures (miss_stands _ _ _ _ took.stands))
    (feeds_quiet _ (Missed ∷ []) (took.feeds ∙ (rw (← c.self.view_is) at c.requires)) refl)

pub returns-clause-lasts : goal.returns-clause-lasts
returns-clause-lasts g c =
    let took = c.take-guard.ensures.took in
    let gave = c.give.ensures.gave in
    rw (← c.self.view_is) (lasts_by _ c.self.inside.pass.table_id c.give.new.pass.table_id _ _ _ _ _ (cc) took gave
    gave.makes.0)

pub returns-clause-missed : goal.returns-clause-missed
returns-clause-missed g c =
    let took = c.take-guard.ensures.took in
    let made = c.give.ensures.gave.makes in
    let feeds = rw (← c.self.view_is) at c.requires in
    rw (← c.self.view_is) (miss_gains _ _ _ _ took.goes_on (took.told Feeds feeds) (rw c.of-held.ensures at made.2)
    made.3)
