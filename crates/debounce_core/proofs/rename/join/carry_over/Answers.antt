-- What is put is filled; and the steps lead to the joined rename.
use Rattle.std.proofs.Common.{◌∙◌}
use Rattle.debounce_model.proofs.RenameLemmas.{events_law}
use Rattle.debounce_core.proofs.RenameLemmas.ReadLemmas.{filled_made, joined_made}
use Rattle.debounce_core.proofs.rename.join.carry_over.Goals as goal
use Rattle.debounce_core.proofs.rename.join.carry_over.Goals.{then-goes, else-goes}

pub source_at-source-requires : goal.source_at-source-requires
source_at-source-requires g c =
    rw (c.look_at-at_source.ensures.look.1, c.by_path-map.ensures)
    (events_law c.args.queues.now c.args.rename.from.now c.requires).1

pub put_all-requires : goal.put_all-requires
put_all-requires g c =
    filled_made c.args.rename c.source_at-source.result c.look_at-at_source.result c.look_at-at_target.result
    c.by_path-map.ensures c.look_at-at_source.ensures.ordered c.look_at-at_source.ensures.look
    c.look_at-at_target.ensures.look c.source_at-source.ensures c.original_time.ensures c.in_ok-going.ensures
    c.in_ok-puts.ensures c.requires

pub returns-clause-ok : goal.returns-clause-ok
returns-clause-ok g c =
    let done = joined_made c.args.rename c.source_at-source.result c.look_at-at_source.result c.look_at-at_target.result
    c.by_path-map.ensures c.look_at-at_source.ensures.ordered c.look_at-at_source.ensures.look
    c.look_at-at_target.ensures.look c.source_at-source.ensures c.original_time.ensures c.in_ok-going.ensures
    c.in_ok-puts.ensures c.keeps_event-stays.ensures c.is_empty-goes.ensures c.as_slice.ensures.value
    c.as_slice-2.ensures.value c.in_ok-stale.ensures c.in_ok-put_all.ensures.ok c.leave.ensures c.take_out_all.ensures
    in
    elim c.if-goes.branch [
      | then-goes w ↦ w.queues-is ∙ w.drop_below.ensures ∙ done.0 w.if-goes.true
      | else-goes w ↦ w.queues-is ∙ done.1 w.if-goes.false
    ]
