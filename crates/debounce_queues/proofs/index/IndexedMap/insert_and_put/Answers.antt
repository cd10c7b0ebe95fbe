-- With room for them the queues are put, and they leave what they leave without it.
use Rattle.std.proofs.Common.{◌∙◌, ap}
use Rattle.debounce_model.specs.MapSteps.{reserved_all}
use Rattle.debounce_model.specs.Moved.{with_queues}
use Rattle.debounce_model.specs.Queues.{Queues}
use Rattle.debounce_model.proofs.MoveSteps.{has_room}
use Rattle.debounce_queues.proofs.FrontPuts.{with_queues-reserved}
use Rattle.debounce_queues.proofs.index.IndexedMap.insert_and_put.Goals as goal

pub set_all-requires : goal.set_all-requires
set_all-requires g c =
    rw (c.in_ok-make_room.ensures.ok, c.as_slice.ensures.value)
    (has_room c.args.self.now.map.entries c.args.queues.items)

pub returns-clause-ok : goal.returns-clause-ok
returns-clause-ok g c =
    let m = c.args.self.now.map.entries in
    let es = c.args.queues.items in
    c.set_all.ensures
    ∙ ap (λ (u : Queues). with_queues u es) (c.in_ok-make_room.ensures.ok
    ∙ ap (reserved_all m) c.as_slice.ensures.value)
    ∙ with_queues-reserved m es c.len-len.ensures.ordered
