use Rattle.std.proofs.Common.{◌≡◌, drop}
use Rattle.debounce_run.specs.Access.Happened.{History}
use Rattle.program_reports.specs.Folders.Start.{AddsRoots}
use Rattle.program_reports.proofs.folders.reports.watch_each.Given as goal

-- the folders so far, and those that are left, are all
abbrev pub invariant-loop-folder : goal.invariant-loop-folder
invariant-loop-folder g l = record {
  made : l.live.reports.debouncer.made ≡ l.fn.live.reports.debouncer.made;
  queue : l.live.reports.queue ≡ l.fn.live.reports.queue;
  roots : (after : History) → AddsRoots l.live.reports.debouncer.seen (drop l.folder-index l.folders) l.mode after →
      AddsRoots l.fn.live.reports.debouncer.seen l.folders l.mode after;
}
