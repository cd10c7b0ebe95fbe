use Rattle.debounce_run.proofs.AccessLemmas.Steps.{opening_stands}
use Rattle.debounce_run.proofs.access.Access.open.Goals as goal

pub new-requires-2 : goal.new-requires-2
new-requires-2 g c = rw c.in_ok-new.ensures.ok (opening_stands g.C.FileIdCache.rules c.args.book c.requires)
