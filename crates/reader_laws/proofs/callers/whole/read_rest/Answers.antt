use Rattle.std.proofs.Common.{◌≡◌, ◌+◌, ◌∷◌, ◌∙◌, ap, arith, drop, rules, sym}
use Rattle.std.proofs.lemmas.List.{at_drop_all}
use Rattle.debounce_model.specs.Play.{Paths}
use Rattle.debounce_model.proofs.Lists.{drop_at}
use Rattle.reader_laws.specs.Callers.Whole.{read_on}
use Rattle.reader_laws.proofs.CallersLemmas.WholeLemmas.{read_first}
use Rattle.reader_laws.proofs.callers.whole.read_rest.Goals as goal

-- One more report is played.
pub loop-report-preserved : goal.loop-report-preserved
loop-report-preserved g c =
    let i = c.loop-report.report-index in
    let reports = c.args.reports.now in
    let item = c.report-item.result in
    let rest = drop (i + 1) reports in
    let left : drop i reports ≡ item ∷ rest = drop_at reports i item c.loop-report-test.true c.report-item.is in
    ap (λ (ps : Paths). read_on ps rest) c.in_ok-play_report.ensures.ok
    ∙ read_first c.loop-report.paths item rest
    ∙ sym (ap (read_on c.loop-report.paths) left)
    ∙ c.loop-report.invariant

-- Then what waits is.
pub returns-clause-ok : goal.returns-clause-ok
returns-clause-ok g c =
    let reports = c.args.reports.now in
    let played : c.loop-report.paths ≡ read_on c.args.paths reports =
    sym (at_drop_all (read_on c.loop-report.paths) reports c.loop-report.report-index
    (omega (arith, c.loop-report-test.false)))
    ∙ c.loop-report.invariant in (
      c.in_ok-outlook.outlook.items,
      c.in_ok-outlook.ensures.outlook,
      search (rules, c.in_ok-play.ensures.ok, played),
    )
