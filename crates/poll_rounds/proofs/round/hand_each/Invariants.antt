use Rattle.std.proofs.Common.{◌≡◌, ◌++◌, length}
use Rattle.std.specs.Vec.Iter.{into_iter_items, into_iter_len}
use Rattle.poll_rounds.specs.Rounds.{HandsEach}
use Rattle.poll_rounds.proofs.round.hand_each.Given as goal

-- the events so far are handed on, and the handler can be called
abbrev pub invariant-loop-event : goal.invariant-loop-event
invariant-loop-event g l = record {
  ready : g.H.EventHandler.ready l.handler;
  handed : HandsEach g.H.EventHandler.handles l.yielded l.fn.handler l.handler;
  left : l.yielded ++ into_iter_items l.event-iterator ≡ l.fn.events.items;
  counted : length (into_iter_items l.event-iterator) ≡ into_iter_len l.event-iterator;
}
