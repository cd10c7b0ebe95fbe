use Rattle.notify_paths.proofs.Joins.{lacks_none}
use Rattle.notify_paths.proofs.text.text_past.Goals as goal

pub returns-in-None : goal.returns-in-None
returns-in-None c = absurd (lacks_none c.args.base.now c.args.text.now c.in-None.ensures.cases c.requires)
