use Rattle.std.proofs.Common.{List}
use Rattle.program_frame.specs.Reports.Loop.{Answer, DoesAll, Step}
use Rattle.program_frame.proofs.reports.follow.hand_on.Given as goal

-- the steps that are still done, after those that were, are the steps of all
abbrev pub invariant-loop : goal.invariant-loop
invariant-loop g l = record {
  iterates : (goal.iterator-loop g).can_next l.iterator' × (goal.iterator-loop g).is_finite l.iterator';
  done : (answer : Answer) (given : _) (after : _) →
      ((steps : List Step) × DoesAll g.S.GivesReports.gives
      (record {
        begins = g.P.TakesReports.begins;
        patience = g.P.TakesReports.waits;
        takes = g.P.TakesReports.takes;
        passes = g.P.TakesReports.passes;
      })
      steps l.source l.program answer given after) →
      (steps : List Step) × DoesAll g.S.GivesReports.gives
      (record {
        begins = g.P.TakesReports.begins;
        patience = g.P.TakesReports.waits;
        takes = g.P.TakesReports.takes;
        passes = g.P.TakesReports.passes;
      })
      steps l.fn.source l.fn.program answer given after;
}
