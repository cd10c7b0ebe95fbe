use Rattle.std.proofs.Common.{sym, ◌∙◌}
use Rattle.poll_watcher.proofs.EntriesLemmas.NameLemmas.{adds_entry, adds_others}
use Rattle.poll_watcher.proofs.entries.names.add_entry.Goals as goal

pub returns-else-is_entry-clause-ok : goal.returns-else-is_entry-clause-ok
returns-else-is_entry-clause-ok g c = adds_others c.args.name.now _ _ (sym c.is_entry.ensures ∙ c.if-is_entry.false)

pub returns-in_ok-add_name-clause-ok : goal.returns-in_ok-add_name-clause-ok
returns-in_ok-add_name-clause-ok g c =
    adds_entry c.args.name.now _ _ _ _ (sym c.is_entry.ensures ∙ c.if-is_entry.true) c.in_ok-add_name.ensures.ok
