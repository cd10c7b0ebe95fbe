use Rattle.std.proofs.Common.{◌≡◌, drop, true}
use Rattle.debounce_model.specs.Play.{events_of}
use Rattle.program_copy.specs.After.{waits}
use Rattle.program_copy.proofs.NamedLemmas.{LeftToDo}
use Rattle.program_copy.proofs.mirror.Mirror.keep_for_later.Given as goal

-- each path that an event names waits, or is among those that are left
abbrev pub invariant-loop-event : goal.invariant-loop-event
invariant-loop-event g l = record {
  wait : LeftToDo (λ p. waits l.self.waiting p ≡ true) (events_of l.batch) (events_of (drop l.event-index l.batch));
  same : l.self.kept ≡ l.fn.self.kept;
}
