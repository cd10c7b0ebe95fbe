use Rattle.std.proofs.Common.{◌≡◌, length}
use Rattle.std.specs.Vec.Iter.{into_iter_items, into_iter_len}
use Rattle.program_frame.specs.Reports.Loop.{Answer, TakesEach}
use Rattle.program_frame.proofs.reports.follow.take_each.Given as goal

-- what is taken of the reports that are left is what is taken of all
abbrev pub invariant-loop-report : goal.invariant-loop-report
invariant-loop-report g l = record {
  taken : (answer : Answer) (after : _) →
      TakesEach (record {
        begins = g.P.TakesReports.begins;
        patience = g.P.TakesReports.waits;
        takes = g.P.TakesReports.takes;
        passes = g.P.TakesReports.passes;
      })
      (into_iter_items l.report-iterator) l.program answer after →
      TakesEach (record {
        begins = g.P.TakesReports.begins;
        patience = g.P.TakesReports.waits;
        takes = g.P.TakesReports.takes;
        passes = g.P.TakesReports.passes;
      })
      l.fn.reports.items l.fn.program answer after;
  counted : length (into_iter_items l.report-iterator) ≡ into_iter_len l.report-iterator;
}
