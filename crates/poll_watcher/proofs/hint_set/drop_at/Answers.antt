use Rattle.std.proofs.Common.{not, rules}
use Rattle.std.proofs.lemmas.Fn.{filter_same}
use Rattle.notify_paths.specs.Path.{is_prefix}
use Rattle.poll_watcher.proofs.hint_set.drop_at.Goals as goal

pub returns-clause-items : goal.returns-clause-items
returns-clause-items g c =
    filter_same _ (λ kept. not (is_prefix c.args.path.now kept)) _ (λ x b f' t. search rules)
    c.args.paths.now.items c.retain.new.self.items c.retain.ensures.filtered
