use Rattle.std.proofs.Common.{rules}
use Rattle.debounce_model.proofs.Entries.{changed_from_retain}
use Rattle.debounce_queues.proofs.change.change_values.Goals as goal

pub returns : goal.returns
returns g c =
    changed_from_retain _ (g.T.Change.changed c.args.change.now) (g.T.Change.stays c.args.change.now)
    _ (λ k v b w f' t. search rules) c.args.map.now.entries c.retain.new.self.entries
    c.retain.ensures.filtered
