-- What is created is absent, and its folders are there.
use Rattle.std.proofs.Common.{rules}
use Rattle.reader_paths.proofs.honest.is_honest_at.Goals as goal

pub returns-then-is_creation-clause-ok : goal.returns-then-is_creation-clause-ok
returns-then-is_creation-clause-ok g c = search rules
