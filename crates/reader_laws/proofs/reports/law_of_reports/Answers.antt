use Rattle.poll_rounds.proofs.ReportLemmas.{begins, goes_on}
use Rattle.reader_laws.proofs.ReportLemmas.{reader_has_what_is_reported}
use Rattle.reader_laws.proofs.reports.law_of_reports.Goals as goal

pub returns-clause-begins : goal.returns-clause-begins
returns-clause-begins g c = begins g.H.EventHandler.handles

pub returns-clause-goes_on : goal.returns-clause-goes_on
returns-clause-goes_on g c = goes_on g.H.EventHandler.handles

pub returns-clause-reader : goal.returns-clause-reader
returns-clause-reader g c = λ notes begun last now s t commands replies outlook.
    reader_has_what_is_reported g.C.FileIdCache.rules g.H.EventHandler.handles notes begun last now s t commands
    replies outlook
