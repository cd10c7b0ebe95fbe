use Rattle.poll_watcher.proofs.EntriesLemmas.NameLemmas.{adding_more}
use Rattle.poll_watcher.proofs.entries.names.add_names.Goals as goal

pub loop-rest-preserved : goal.loop-rest-preserved
loop-rest-preserved g c =
    adding_more c.args.bytes.now c.loop-rest.rest.now c.first_name.result.0.now c.first_name.result.1.now _ _ _ _ _ _
    c.loop-rest.invariant c.first_name.ensures.name c.first_name.ensures.after c.in_ok-add_entry.ensures.ok
    c.in_ok-add_entry.ensures.counted
