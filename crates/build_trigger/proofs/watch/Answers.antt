use Rattle.std.proofs.Common.{◌∙◌, ap, inl, refl, subst, rules}
use Rattle.notify_types.specs.declared.event.RecursiveMode.TheVariants.{Recursive}
use Rattle.program_logic.specs.Journal.KeptView.{filter_rule}
use Rattle.program_logic.proofs.TriggerLemmas.PrintedLemmas.{bursts_begun, bursts_cut, bursts_followed, trigger_program}
use Rattle.program_reports.proofs.FaultLemmas.{ill_followed, of_fault, on_err}
use Rattle.program_reports.proofs.FolderLemmas.{on_ok, well_followed}
use Rattle.program_reports.specs.Folders.Start.{IsOpened}
use Rattle.program_reports.specs.FollowsFolder.{folder_source}
use Rattle.build_trigger.proofs.watch.Goals as goal

pub returns-in_err-folders-clause-begun : goal.returns-in_err-folders-clause-begun
returns-in_err-folders-clause-begun g c =
    of_fault _ c.from_residual.result c.in_err-folders.field-0.0 (search rules)
    (inl (inl (inl c.in_err-folders.ensures.err), refl))

pub returns-in_err-missed-clause-begun : goal.returns-in_err-missed-clause-begun
returns-in_err-missed-clause-begun g c =
    let pace = c.pace_of-pace.ensures in
    let at = c.pace_of-pace.result in
    of_fault _ c.from_residual-in_err-missed.result c.in_err-missed.field-0.0 (search rules)
    (ill_followed (trigger_program (λ p. filter_rule p.filter) (λ p. p.folder.now) (λ p. p.trigger) (λ p. p.quiet)
    (λ p. g.O.Write.contents p.out)) at _ Recursive c.args.bursts.now c.follow_folders.new.program
    c.in_err-missed.field-0.0 c.in_err-missed.ensures (λ same. ap (λ p. g.O.Write.contents p.out) same)
    (λ run. (
      at,
      ((pace.timeout, pace.timeout_given), (pace.changes, pace.initial)),
      (
        run.0,
        subst (λ paths. IsOpened at paths Recursive run.0)
            (c.as_slice.ensures.value ∙ c.in_ok-folders.ensures.ok) run.1,
        bursts_begun (λ p. filter_rule p.filter) (λ p. p.folder.now) (λ p. p.trigger)
            (λ p. p.quiet) (λ p. g.O.Write.contents p.out) folder_source run.0 c.args.bursts.now
            c.follow_folders.new.program _ run.2 c.requires.empty,
      ),
    )))

pub returns-clause-printed : goal.returns-clause-printed
returns-clause-printed g c =
    let pace = c.pace_of-pace.ensures in
    let at = c.pace_of-pace.result in
    let run = well_followed (trigger_program (λ p. filter_rule p.filter) (λ p. p.folder.now) (λ p. p.trigger)
    (λ p. p.quiet) (λ p. g.O.Write.contents p.out)) at _ Recursive c.args.bursts.now c.follow_folders.new.program
    c.in_ok-missed.missed c.in_ok-missed.ensures in
    on_ok c.write.result (λ last. (
      at,
      ((pace.timeout, pace.timeout_given), (pace.changes, pace.initial)),
      (
        run.0,
        subst (λ paths. IsOpened at paths Recursive run.0)
            (c.as_slice.ensures.value ∙ c.in_ok-folders.ensures.ok) run.1,
        bursts_followed folder_source run.0 (λ p. filter_rule p.filter) (λ p. p.folder.now)
            (λ p. p.trigger) (λ p. p.quiet) (λ p. g.O.Write.contents p.out) c.args.bursts.now
            c.follow_folders.new.program c.in_ok-missed.missed _ run.2 c.requires.empty last,
      ),
    )) c.write.ensures.written

pub returns-clause-begun : goal.returns-clause-begun
returns-clause-begun g c =
    let pace = c.pace_of-pace.ensures in
    let at = c.pace_of-pace.result in
    let run = well_followed (trigger_program (λ p. filter_rule p.filter) (λ p. p.folder.now) (λ p. p.trigger)
    (λ p. p.quiet) (λ p. g.O.Write.contents p.out)) at _ Recursive c.args.bursts.now c.follow_folders.new.program
    c.in_ok-missed.missed c.in_ok-missed.ensures in
    on_err _ c.write.result (λ front. (
      at,
      ((pace.timeout, pace.timeout_given), (pace.changes, pace.initial)),
      (
        run.0,
        subst (λ paths. IsOpened at paths Recursive run.0)
            (c.as_slice.ensures.value ∙ c.in_ok-folders.ensures.ok) run.1,
        bursts_cut (λ p. filter_rule p.filter) (λ p. p.folder.now) (λ p. p.trigger) (λ p. p.quiet)
            (λ p. g.O.Write.contents p.out) folder_source run.0 c.args.bursts.now c.follow_folders.new.program
            c.in_ok-missed.missed _ run.2 c.requires.empty front,
      ),
    )) c.write.ensures.begun
