use Rattle.std.proofs.Common.{not, rules}
use Rattle.std.proofs.lemmas.Fn.{filter_same}
use Rattle.notify_paths.specs.Path.{path_eq}
use Rattle.poll_watcher.proofs.roots.polled.drop_root.Goals as goal

pub returns-clause-items : goal.returns-clause-items
returns-clause-items g c =
    filter_same _ (λ root. not (path_eq root.0 c.args.path.now)) _ (λ x b f' t. search rules)
    c.args.roots.now.items c.retain.new.self.items c.retain.ensures.filtered
