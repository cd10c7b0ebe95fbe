use Rattle.program_logic.proofs.WordsLemmas.Nothing.{begins_nothing}
use Rattle.program_logic.proofs.words.answer.write_answer.Goals as goal

pub returns-in_err-word-clause-begun : goal.returns-in_err-word-clause-begun
returns-in_err-word-clause-begun g c = begins_nothing c.from_residual.result _ _

pub returns-in_err-documents_with-clause-begun : goal.returns-in_err-documents_with-clause-begun
returns-in_err-documents_with-clause-begun g c = begins_nothing c.from_residual-in_err-documents_with.result _ _
