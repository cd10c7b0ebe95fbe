use Rattle.std.proofs.Common.{◌≡◌, drop, true}
use Rattle.debounce_model.specs.Play.{events_of}
use Rattle.program_copy.specs.Looked.{AreSeen, is_known}
use Rattle.program_copy.proofs.NamedLemmas.{LeftToDo}
use Rattle.program_copy.proofs.looks.Looks.look_for_each.Given as goal

-- each path that an event names was looked at, or is among those that are left
abbrev pub invariant-loop-event : goal.invariant-loop-event
invariant-loop-event g l = record {
  wanted : l.self.wanted ≡ l.fn.self.wanted;
  known : LeftToDo (λ p. is_known l.self.standing.entries l.self.others.entries p ≡ true) (events_of l.batch)
      (events_of (drop l.event-index l.batch));
  seen : AreSeen (g.C.FolderAndCopy.sees l.kept.copy) l.fn.self.wanted.entries l.fn.self.standing.entries
      l.fn.self.others.entries → AreSeen (g.C.FolderAndCopy.sees l.kept.copy) l.self.wanted.entries
      l.self.standing.entries l.self.others.entries;
}
