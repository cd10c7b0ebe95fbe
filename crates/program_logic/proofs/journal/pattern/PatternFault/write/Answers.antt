use Rattle.program_logic.proofs.JournalLemmas.Nothing.{appends_nothing}
use Rattle.program_logic.proofs.journal.pattern.PatternFault.write.Goals as goal

pub returns-in-Memory-clause-line : goal.returns-in-Memory-clause-line
returns-in-Memory-clause-line g c = rw (c.in-Memory.is) (appends_nothing _)

pub returns-in-Wrong-clause-line : goal.returns-in-Wrong-clause-line
returns-in-Wrong-clause-line g c = rw (c.in-Wrong.is) c.write_wrong.ensures.line

pub returns-in-TooLarge-clause-line : goal.returns-in-TooLarge-clause-line
returns-in-TooLarge-clause-line g c = rw (c.in-TooLarge.is) c.write_large.ensures.line
