use Rattle.program_logic.proofs.ConfigLemmas.ReadChanges.{each_change_is_read}
use Rattle.program_logic.proofs.config.touched.law_of_reloads.Goals as goal

pub returns : goal.returns
returns g c = each_change_is_read g.C.FileIdCache.rules
