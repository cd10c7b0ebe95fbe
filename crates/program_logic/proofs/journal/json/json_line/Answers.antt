use Rattle.program_logic.proofs.JournalLemmas.Shapes.{text_is, read_is}
use Rattle.program_logic.proofs.journal.json.json_line.Goals as goal

pub returns-clause-text : goal.returns-clause-text
returns-clause-text c = text_is _ _ _ _ _ _ c.in_ok-value.ensures c.in_ok-line.ensures.text

pub returns-clause-again : goal.returns-clause-again
returns-clause-again c = read_is _ _ _ _ _ _ c.in_ok-value.ensures c.in_ok-line.ensures.reads_back
