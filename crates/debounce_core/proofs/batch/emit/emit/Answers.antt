-- There is room for what is moved, and its places are all places.
use Rattle.std.proofs.Common.{◌≡◌, ◌∙◌, ◌+◌, ◌++◌, ap, arith, length, length-append, subst, sym}
use Rattle.notify_types.specs.Borrowed.{borrowed}
use Rattle.debounce_model.specs.Due.{place_list}
use Rattle.debounce_model.specs.Tick.{due_of}
use Rattle.debounce_order.specs.Places.{ArePlaces, ArePlacesInOrder}
use Rattle.debounce_order.proofs.PlaceLemmas.{order_counted}
use Rattle.debounce_order.proofs.PutLemmas.{order_places}
use Rattle.debounce_queues.specs.Due.{is_due}
use Rattle.debounce_core.proofs.batch.emit.emit.Goals as goal

pub ranks_of-requires : goal.ranks_of-requires
ranks_of-requires g c =
    let order = subst (λ list. ArePlacesInOrder list c.in_ok-places.places.items) c.in_ok-events.ensures.events
    (subst (λ events. ArePlacesInOrder (borrowed events) c.in_ok-places.places.items) c.as_slice.ensures.value
    c.in_ok-places.ensures) in
    subst ArePlaces (sym c.as_slice-2.ensures.value) (order_places _ _ order)

pub take_due-requires-clause-room : goal.take_due-requires-clause-room
take_due-requires-clause-room g c =
    let due = is_due c.args.due in
    let a = due_of due c.args.slot.now in
    let b = place_list due c.args.queues.now in
    let p = c.in_ok-places.places in
    let m = c.in_ok-moved.moved in
    let order = subst (λ list. ArePlacesInOrder list c.in_ok-places.places.items) c.in_ok-events.ensures.events
    (subst (λ events. ArePlacesInOrder (borrowed events) c.in_ok-places.places.items) c.as_slice.ensures.value
    c.in_ok-places.ensures) in
    let n : length p.items ≡ length a + length b = order_counted (a ++ b) p.items order ∙ length-append a b in
    omega (arith, n, p.ok.0, m.ok.0, c.len.ensures, c.in_ok-moved.ensures.len, c.in_ok-moved.ensures.capacity)

pub give_first-requires : goal.give_first-requires
give_first-requires g c =
    let due = is_due c.args.due in
    let a = due_of due c.args.slot.now in
    let b = place_list due c.args.queues.now in
    let p = c.in_ok-places.places in
    let m = c.in_ok-moved.moved in
    let order = subst (λ list. ArePlacesInOrder list c.in_ok-places.places.items) c.in_ok-events.ensures.events
    (subst (λ events. ArePlacesInOrder (borrowed events) c.in_ok-places.places.items) c.as_slice.ensures.value
    c.in_ok-places.ensures) in
    let n : length p.items ≡ length a + length b = order_counted (a ++ b) p.items order ∙ length-append a b in
    let longer : length c.take_due.new.out.items ≡ length m.items + length b =
    ap length c.in_ok-visited.ensures.moved ∙ length-append m.items b in
    omega (
      arith,
      n,
      longer,
      p.ok.0,
      m.ok.0,
      c.take_due.new.out.ok.0,
      c.len.ensures,
      c.in_ok-moved.ensures.len,
      c.in_ok-moved.ensures.capacity,
      c.take_due.ensures.capacity,
    )
