-- The last queue is set, and there is room for the others.
use Rattle.std.proofs.Common.{◌∙◌, ap, sym, subst}
use Rattle.debounce_model.specs.Queues.{Queues}
use Rattle.debounce_model.specs.Moved.{with_queues}
use Rattle.debounce_model.specs.MapSteps.{HasRoom}
use Rattle.debounce_model.proofs.MoveSteps.{with_queues-last, room-last, room-set}
use Rattle.debounce_queues.proofs.room.set_all.Goals as goal

pub set-requires : goal.set-requires
set-requires g c =
    (room-last c.loop-path.map.entries c.pop.new.self.items c.in-Some.path c.in-Some.queue
    (subst (λ (r : Queues). HasRoom c.loop-path.map.entries r) c.in-Some.ensures.items
    c.loop-path.invariant.room)).0

pub loop-path-preserved : goal.loop-path-preserved
loop-path-preserved g c =
    let q = c.loop-path.map.entries in
    let more =
    room-last q c.pop.new.self.items c.in-Some.path c.in-Some.queue
    (subst (λ (r : Queues). HasRoom q r) c.in-Some.ensures.items c.loop-path.invariant.room) in
    record {
      set = ap (λ r. with_queues r c.pop.new.self.items) c.set.ensures
          ∙ sym (with_queues-last q c.pop.new.self.items c.in-Some.path c.in-Some.queue)
          ∙ ap (with_queues q) (sym c.in-Some.ensures.items) ∙ c.loop-path.invariant.set;
      room = subst (λ r. HasRoom r c.pop.new.self.items) (sym c.set.ensures)
          (room-set q c.pop.new.self.items c.in-Some.path c.in-Some.queue more.1);
    }
