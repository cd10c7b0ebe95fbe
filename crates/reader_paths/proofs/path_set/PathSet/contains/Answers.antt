use Rattle.std.proofs.Common.{◌∙◌}
use Rattle.std.specs.BTreeMap.{is_at}
use Rattle.std.proofs.lemmas.Map.Made.{is_some-lookup}
use Rattle.notify_paths.specs.Path.{path_cmp}
use Rattle.reader_paths.proofs.path_set.PathSet.contains.Goals as goal

pub returns : goal.returns
returns g c =
    rw (← c.self.view_is) (c.contains_key.ensures
    ∙ is_some-lookup (is_at (path_cmp c.args.path.now)) c.self.inside.paths.entries)
