use Rattle.program_frame.proofs.Flat.{flat_field}
use Rattle.program_frame.proofs.field.push_field.Goals as goal

pub returns-in_err-push_escaped-clause-flat : goal.returns-in_err-push_escaped-clause-flat
returns-in_err-push_escaped-clause-flat c = flat_field c.args.text.now

pub returns-clause-flat : goal.returns-clause-flat
returns-clause-flat c = flat_field c.args.text.now
