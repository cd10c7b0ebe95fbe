use Rattle.std.proofs.Common.{inl, rules}
use Rattle.program_frame.proofs.ReportsLemmas.TakingLemmas.{taken_alone}
use Rattle.program_frame.proofs.reports.batch_taker.BatchTaker.hand_batch.Goals as goal

pub returns-then-is_empty : goal.returns-then-is_empty
returns-then-is_empty g c = rw (← c.self.view_is) (record {
  taken = taken_alone g.P.TakesBatches.takes c.args.batch _ _ _ (search rules)
      (rw (← c.self.view_is) at c.hand.ensures.taken);
})

pub returns : goal.returns
returns g c = rw (← c.self.view_is) (record {
  taken = inl (rw (c.in_ok-append.ensures.items, c.replace-events.ensures.value) at c.hand-2.ensures.taken);
})
