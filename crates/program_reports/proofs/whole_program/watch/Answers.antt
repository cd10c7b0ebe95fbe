use Rattle.std.proofs.Common.{inl, refl, rules}
use Rattle.std.specs.Prelude.{Err, Ok}
use Rattle.notify_types.specs.declared.event.RecursiveMode.TheVariants.{Recursive}
use Rattle.program_frame.specs.Reports.Batches.{of_batches}
use Rattle.program_reports.proofs.FolderLemmas.{at_folder}
use Rattle.program_reports.proofs.whole_program.watch.Goals as goal

pub returns-in_err-folder : goal.returns-in_err-folder
returns-in_err-folder g c = (
  record c.pace_of.result { initial = c.wants_initial.result },
  Err c.in_err-folder.field-0.0,
  c.args.taker.now,
  (c.pace_of.ensures.timeout, c.pace_of.ensures.timeout_given),
  c.wants_initial.ensures,
  inl (c.in_err-folder.field-0.0, inl (inl c.in_err-folder.ensures.err), refl, refl),
  (search rules, refl),
)

pub returns-in_err-missed : goal.returns-in_err-missed
returns-in_err-missed g c = (
  record c.pace_of.result { initial = c.wants_initial.result },
  Err c.in_err-missed.field-0.0,
  c.follow.new.taker,
  (c.pace_of.ensures.timeout, c.pace_of.ensures.timeout_given),
  c.wants_initial.ensures,
  at_folder (of_batches g.P.TakesBatches.begins g.P.TakesBatches.takes) _ Recursive _ _ c.in_ok-folder.ensures.ok
      c.args.taker.now c.follow.new.taker _ c.in_err-missed.ensures,
  (search rules, refl),
)

pub returns : goal.returns
returns g c = (
  record c.pace_of.result { initial = c.wants_initial.result },
  Ok c.in_ok-missed.missed,
  c.follow.new.taker,
  (c.pace_of.ensures.timeout, c.pace_of.ensures.timeout_given),
  c.wants_initial.ensures,
  at_folder (of_batches g.P.TakesBatches.begins g.P.TakesBatches.takes) _ Recursive _ _ c.in_ok-folder.ensures.ok
      c.args.taker.now c.follow.new.taker _ c.in_ok-missed.ensures,
  c.finish.ensures.ended,
)
