-- The journal of the run is handed on; each journal keeps the laws of whole runs.
use Rattle.debounce_book.proofs.JournalRuns.{journal_gives_raw_paths, journal_invents_no_rename, journal_loses_no_change}
use Rattle.debounce_run.proofs.threads.run.run_threads.Goals as goal

pub returns-in-Ok-clause-ok : goal.returns-in-Ok-clause-ok
returns-in-Ok-clause-ok g c = c.in-Ok.ensures

pub returns-in-Ok-clause-kept : goal.returns-in-Ok-clause-kept
returns-in-Ok-clause-kept g c = journal_loses_no_change _ _

pub returns-in-Ok-clause-raw : goal.returns-in-Ok-clause-raw
returns-in-Ok-clause-raw g c = journal_gives_raw_paths _ _

pub returns-in-Ok-clause-founded : goal.returns-in-Ok-clause-founded
returns-in-Ok-clause-founded g c = journal_invents_no_rename _ _
