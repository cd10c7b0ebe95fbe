use Rattle.std.proofs.Common.{◌∙◌, ap, subst, sym}
use Rattle.program_reports.specs.Folders.Start.{BeganWith}
use Rattle.program_reports.proofs.FoldersLemmas.StartLemmas.{opened_one}
use Rattle.program_reports.proofs.folders.reports.FolderReports.start.Goals as goal

pub returns-clause-ok : goal.returns-clause-ok
returns-clause-ok g c = opened_one _ _ _ _ _ c.of.result c.in_ok-live.ensures.opened
    (subst (λ made. BeganWith c.args.pace.initial made)
    (sym (c.of.ensures.made ∙ c.watch.ensures.made)) c.in_ok-live.ensures.began)
    c.in_ok-watch.ensures.ok
    c.of.ensures.seen (c.of.ensures.given ∙ ap (λ q. q.given) c.watch.ensures.queue ∙ c.in_ok-live.ensures.given)
