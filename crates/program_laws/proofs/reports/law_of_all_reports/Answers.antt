use Rattle.program_laws.proofs.WholeLemmas.{takes_all}
use Rattle.program_laws.proofs.reports.law_of_all_reports.Goals as goal

pub returns : goal.returns
returns c = record { all = takes_all c.law_of_one_feeder.ensures }
