use Rattle.std.proofs.Common.{◌∙◌, ap}
use Rattle.std.specs.Map.{keys_of}
use Rattle.notify_paths.specs.Path.{path_cmp}
use Rattle.reader_paths.proofs.Keys.{keys_of-insert_entry}
use Rattle.reader_paths.proofs.path_set.PathSet.insert.Goals as goal

pub returns-clause-ok : goal.returns-clause-ok
returns-clause-ok g c =
    rw (← c.self.view_is) (ap keys_of c.in-Ok.ensures.entries
    ∙ keys_of-insert_entry path_cmp c.self.inside.paths.entries c.args.path tt)
