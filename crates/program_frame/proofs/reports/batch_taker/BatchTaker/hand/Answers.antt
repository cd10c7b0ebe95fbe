use Rattle.std.proofs.Common.{refl, rules}
use Rattle.std.specs.Prelude.{Err, Ok}
use Rattle.program_frame.specs.declared.reports.batches.Taken.TheVariants.{All, Again}
use Rattle.program_frame.proofs.reports.batch_taker.BatchTaker.hand.Goals as goal

pub returns-in_err-take : goal.returns-in_err-take
returns-in_err-take g c = rw (← c.self.view_is) (record {
  taken = (c.args.events, Err c.in_err-take.field-0.0, refl, c.in_err-take.ensures, (refl, refl), search rules);
})

pub returns-in-All : goal.returns-in-All
returns-in-All g c = rw (← c.self.view_is) (record {
  taken = (c.args.events, Ok All, refl, search rules, (refl, refl), (refl, c.clear.ensures.items));
})

pub returns-in-Again : goal.returns-in-Again
returns-in-Again g c = rw (← c.self.view_is) (record {
  taken = (c.args.events, Ok (Again c.in-Again.again), refl, search rules, (refl, refl), (refl, refl));
})
