use Rattle.std.proofs.Common.{refl}
use Rattle.program_logic.proofs.journal.patterns.read.Goals as goal

-- the grammar's own reason, at the beginning of its place
pub returns-in-Err-Syntax-clause-err : goal.returns-in-Err-Syntax-clause-err
returns-in-Err-Syntax-clause-err c =
    let refused = c.in-Err-Syntax.ensures.by_grammar c.in-Err-Syntax.error c.in-Err-Syntax.field-0-is in
    let place = c.in-Err-Syntax.ensures.span c.in-Err-Syntax.error c.in-Err-Syntax.field-0-is in
    (refl, (c.in-Err-Syntax.error.kind, refused, place.1))
