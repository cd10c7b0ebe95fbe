use Rattle.std.proofs.Common.{◌≡◌, ◌++◌, length}
use Rattle.std.specs.Vec.Iter.{into_iter_items, into_iter_len}
use Rattle.reader_laws.specs.Callers.Followed.{TakesAll}
use Rattle.reader_laws.proofs.callers.follower.take_all.Given as goal

-- those so far were taken
abbrev pub invariant-loop-event : goal.invariant-loop-event
invariant-loop-event g l = record {
  taken : TakesAll l.fn.core l.yielded l.now l.core;
  left : l.yielded ++ into_iter_items l.event-iterator ≡ l.fn.events.items;
  counted : length (into_iter_items l.event-iterator) ≡ into_iter_len l.event-iterator;
}
