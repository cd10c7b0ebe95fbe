use Rattle.program_logic.proofs.JournalLemmas.Timed.{time_is}
use Rattle.program_logic.proofs.journal.clock.clock_now.Goals as goal

pub returns : goal.returns
returns g c = time_is c.clock_text.result _ c.clock_text.ensures.some
