use Rattle.std.proofs.Common.{◌≡◌, ◌∙◌, ap, subst, None}
use Rattle.std.specs.Map.{remove_entry, lookup}
use Rattle.std.specs.BTreeMap.{is_at}
use Rattle.notify_paths.specs.Path.{path_cmp}
use Rattle.notify_paths.specs.Below.{without_below}
use Rattle.notify_paths.proofs.Removals.{at_or_below}
use Rattle.notify_paths.proofs.below.drop_at_or_below.Goals as goal

pub returns : goal.returns
returns g c =
    let path = c.args.path.now in
    let entries = c.args.map.now.entries in
    let test = is_at (path_cmp path) in
    let new : c.remove.new.self.entries ≡ remove_entry test (without_below entries path) =
    c.remove.ensures.entries ∙ ap (remove_entry test) c.drop_below.ensures in
    new ∙ at_or_below path entries (subst (λ es. lookup test es ≡ None) new c.remove.ensures.updates.1)
