use Rattle.program_logic.proofs.ConfigLemmas.EndReadings.{each_change_is_read_by_end}
use Rattle.program_logic.proofs.config.touched.law_of_reloads_by_end.Goals as goal

pub returns : goal.returns
returns g c = each_change_is_read_by_end g.C.FileIdCache.rules
