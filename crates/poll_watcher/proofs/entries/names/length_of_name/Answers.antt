use Rattle.std.proofs.Common.{rules, tests}
use Rattle.std.proofs.lemmas.Iterator.{YieldsList-from_slice}
use Rattle.std.proofs.lemmas.Iterator.Search.{position_from_yields_List}
use Rattle.poll_watcher.proofs.EntriesLemmas.NameLemmas.{is_end, length_from}
use Rattle.poll_watcher.proofs.entries.names.length_of_name.Goals as goal

pub returns : goal.returns
returns c =
    let found = position_from_yields_List is_end _ _ c.position.result c.position.ensures.ran
    (YieldsList-from_slice _ c.iter.ensures.rest) (λ x b q k. search (rules, tests)) in
    length_from c.args.bytes.now c.position.result c.unwrap_or.result found c.unwrap_or.ensures
