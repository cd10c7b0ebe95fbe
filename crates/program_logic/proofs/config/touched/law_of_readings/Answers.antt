use Rattle.program_logic.proofs.ConfigLemmas.ReadingLaw.{readings_follow}
use Rattle.program_logic.proofs.config.touched.law_of_readings.Goals as goal

pub returns : goal.returns
returns g c = readings_follow g.C.FileIdCache.rules g.F.ReadsText.gives c.law_of_reloads_by_end.ensures
