use Rattle.reader_laws.proofs.CallersLemmas.WholeLemmas.{last_is, reads_tree}
use Rattle.reader_laws.proofs.callers.whole.finish_read.Goals as goal

-- The watcher's feed came back with what was found last.
pub unwrap-found-requires : goal.unwrap-found-requires
unwrap-found-requires g c =
    let ended = c.finish-queue.ensures.ended in
    last_is g.K.FixedTree.tree c.args.reports.debouncer.made c.finish-queue.result.last ended.0.log c.requires.made
    ended.1

-- What is read is what the tree shows.
pub returns-clause-ok : goal.returns-clause-ok
returns-clause-ok g c =
    let last = c.finish-queue.result in
    let ended = c.finish-queue.ensures.ended in
    reads_tree c.law_of_one_feeder.ensures g.K.FixedTree.tree c.args.reports.debouncer.made last.last
    c.unwrap-found.result ended.0.log last.book.core.state c.args.reports.queue.given last.queue.items
    c.as_slice.result.now last.missed last.unsent c.args.paths c.in_ok-paths.paths c.requires.made ended.1
    c.unwrap-found.ensures ended.0.leads.missed ended.0.leads.legal ended.0.told.whole c.requires.played
    c.as_slice.ensures.value c.in_ok-paths.ensures.ok
