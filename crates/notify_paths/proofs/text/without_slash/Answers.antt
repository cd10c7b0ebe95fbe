use lib.Utf8.{encode}
use Rattle.notify_paths.proofs.Joins.{no_slash_first}
use Rattle.notify_paths.proofs.text.without_slash.Goals as goal

pub returns-in-None : goal.returns-in-None
unfolding encode
returns-in-None c = no_slash_first c.args.text.now c.in-None.ensures.cases
