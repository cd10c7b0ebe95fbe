use Rattle.std.proofs.Common.{◌≡◌}
use Rattle.notify_paths.specs.Path.{is_prefix}
use Rattle.debounce_model.specs.Play.{events_of}
use Rattle.program_copy.specs.Moving.{ChangesBoth, LeavesOthers}
use Rattle.program_copy.proofs.kept.Kept.carry_all.Given as goal

-- so far only what lies where the move says was changed
abbrev pub invariant-loop-path : goal.invariant-loop-path
invariant-loop-path g l = record {
  same : l.self.copy ≡ l.fn.self.copy;
  both : ChangesBoth l.found l.fn.self.copied l.self.copied;
  others : LeavesOthers (is_prefix l.found.from) l.sources.entries l.fn.self.copied (events_of l.fn.left.items)
      l.self.copied (events_of l.left.items);
}
