use Rattle.std.proofs.Common.{◌∙◌, ap}
use Rattle.std.specs.Map.{keys_of}
use Rattle.notify_paths.specs.Path.{path_cmp}
use Rattle.reader_paths.proofs.PlanLemmas.Keys.{keys_of-insert_entry}
use Rattle.reader_paths.proofs.plan.wanting.add.Goals as goal

pub returns : goal.returns
returns g c =
    ap keys_of c.in_ok-insert.ensures.entries
    ∙ keys_of-insert_entry path_cmp c.args.paths.now.entries c.args.path tt
