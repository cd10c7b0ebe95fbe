-- The entries so far are plain.
use Rattle.std.proofs.Common.{take}
use Rattle.std.specs.List.{AllByRecursion}
use Rattle.debounce_run.specs.Threads.Merged.{IsPlain}
use Rattle.debounce_run.proofs.threads.matches.are_plain.Given as goal

abbrev pub invariant-loop-entry : goal.invariant-loop-entry
invariant-loop-entry g l = AllByRecursion (IsPlain l.count) (take l.entry-index l.entries)
