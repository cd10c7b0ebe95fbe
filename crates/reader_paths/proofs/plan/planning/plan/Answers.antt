use Rattle.std.proofs.Common.{◌∙◌, ◌++◌, ap, subst, sym}
use Rattle.std.specs.Map.{keys_of}
use Rattle.debounce_model.specs.Play.{events_of}
use Rattle.reader_paths.specs.Plan.{KeepsOthers, ActsAsPlayed, LeavesWhatStands, copies, look_at, removals, wanted}
use Rattle.reader_paths.proofs.PlanLemmas.PlanLaw.{keeps_others, leaves_played, leaves_what_stands}
use Rattle.reader_paths.proofs.plan.planning.plan.Goals as goal

pub returns-clause-plan : goal.returns-clause-plan
returns-clause-plan g c =
    let look = look_at c.args.standing.now.entries in
    let events = events_of c.args.batch.now in
    c.in_ok-push_copies.ensures
    ∙ ap (λ l. l ++ copies look (keys_of c.in_ok-paths.paths.entries))
    (c.in_ok-push_removals.ensures ∙ ap (λ l. l ++ removals look events) c.new-actions.ensures.items)
    ∙ ap (λ ps. removals look events ++ copies look ps) c.in_ok-paths.ensures

pub returns-clause-played : goal.returns-clause-played
returns-clause-played g c =
    let look = look_at c.args.standing.now.entries in
    let events = events_of c.args.batch.now in
    subst (ActsAsPlayed look events) (sym (returns-clause-plan g c)) (leaves_played look events)

pub returns-clause-here : goal.returns-clause-here
returns-clause-here g c =
    let look = look_at c.args.standing.now.entries in
    let events = events_of c.args.batch.now in
    subst (LeavesWhatStands look events) (sym (returns-clause-plan g c)) (leaves_what_stands look events)

pub returns-clause-others : goal.returns-clause-others
returns-clause-others g c =
    let look = look_at c.args.standing.now.entries in
    let events = events_of c.args.batch.now in
    subst (KeepsOthers events) (sym (returns-clause-plan g c)) (keeps_others look events)
