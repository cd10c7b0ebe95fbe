use Rattle.std.proofs.Common.{◌≡◌, drop, true}
use Rattle.std.specs.Prelude.{◌⊎◌}
use Rattle.debounce_model.specs.Play.{events_of}
use Rattle.reader_paths.specs.Plan.{look_at}
use Rattle.program_copy.specs.After.{waits}
use Rattle.program_copy.proofs.NamedLemmas.{LeftToDo}
use Rattle.program_copy.proofs.mirror.Mirror.keep_unlike.Given as goal

-- each path that an event names waits, or is as it was seen, or is among those that are left
abbrev pub invariant-loop-event : goal.invariant-loop-event
invariant-loop-event g l = record {
  like : LeftToDo (λ p. (waits l.self.waiting p ≡ true)
      ⊎ (look_at l.fn.self.kept.copied p ≡ look_at l.looks.standing.entries p))
      (events_of l.batch) (events_of (drop l.event-index l.batch));
  same : l.self.kept ≡ l.fn.self.kept;
}
