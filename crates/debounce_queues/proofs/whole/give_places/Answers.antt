-- One more queue is counted, and what is due of it is moved.
use Rattle.std.proofs.Common.{◌∙◌, ap, arith}
use Rattle.debounce_model.specs.Due.{expired_beginning, last_of_kind, place_list}
use Rattle.debounce_model.proofs.DueCounts.{count_most}
use Rattle.debounce_queues.specs.Due.{is_due}
use Rattle.debounce_queues.proofs.FrontWhole.{counted_more, moved_more, room_more}
use Rattle.debounce_queues.proofs.whole.give_places.Goals as goal

pub counted-count-requires : goal.counted-count-requires
counted-count-requires g c =
    omega (
      arith,
      c.loop-path.invariant.counted,
      count_most (is_due c.args.due) c.args.map.entries,
      c.len-len.ensures.len,
      c.len-len.ensures.small,
    )

pub loop-path-preserved : goal.loop-path-preserved
loop-path-preserved g c =
    let l = c.loop-path in
    let i = l.invariant in
    let due = is_due c.args.due in
    let given = last_of_kind (expired_beginning due c.in-Some.queue) in
    let rest = place_list due c.next.new.self in
    let left = ap (place_list due) c.in-Some.ensures.steps in
    let moved = c.take_due.ensures.moved in
    record {
      moved = moved_more l.out.items c.take_due.new.out.items (place_list due l._path-iterator) given rest _ left
          moved i.moved;
      room = room_more l.out.items c.take_due.new.out.items (place_list due l._path-iterator) given rest _ _ _ _
          left moved l.out.ok.0 c.take_due.new.out.ok.0 c.take_due.ensures.capacity i.room;
      same = c.take_due.ensures.capacity ∙ i.same;
      counted = counted_more due (c.in-Some._path, c.in-Some.queue) c.next.new.self l._path-iterator
          c.is_front_due.result l.count c.counted-count.result _ c.in-Some.ensures.steps c.is_front_due.ensures
          c.counted-count.ensures i.counted;
    }
