use Rattle.mirror_run.proofs.Prints.{begins_front}
use Rattle.mirror_run.proofs.output.write_out.Goals as goal

pub returns-in-Err-clause-begun : goal.returns-in-Err-clause-begun
returns-in-Err-clause-begun g c = begins_front _ _ _ (rw c.as_bytes.ensures.value at c.in-Err.ensures.begun)
