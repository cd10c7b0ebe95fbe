use Rattle.std.proofs.Common.{rules}
use Rattle.program_frame.proofs.ReportsLemmas.TakingLemmas.{some_taken}
use Rattle.program_frame.proofs.reports.batch_taker.BatchTaker.hand_again.Goals as goal

pub returns : goal.returns
returns g c = rw (← c.self.view_is) (record {
  again = some_taken g.P.TakesBatches.takes _ _ _ _ (search rules)
      (rw (c.replace-events.ensures.value) at c.hand.ensures.taken);
})
