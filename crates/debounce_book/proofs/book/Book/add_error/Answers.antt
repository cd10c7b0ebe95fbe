-- What the core answers is what the book answers, with one entry if a journal is kept.
use Rattle.std.proofs.Common.{refl}
use Rattle.debounce_model.specs.Command.{ErrorCommand, NotedReply}
use Rattle.debounce_book.proofs.Replay.{IsDone-written, LeadsTo-written}
use Rattle.debounce_book.proofs.book.Book.add_error.Goals as goal

pub invariant_of-self-2 : goal.invariant_of-self-2
invariant_of-self-2 g c =
    let b = c.self.inside in
    let leads = rw c.in-Some.is at c.self.invariant in
    rw (c.write.ensures, c.in_ok-copy.ensures.same, c.in_ok-copy.ensures.ok)
    (LeadsTo-written g.C.FileIdCache.rules b.core c.add_error-2.new.self b.is_whole c.in-Some.journal.items
    c.args.from (ErrorCommand c.args.error) NotedReply refl
    c.in_ok-add_error.ensures.ok leads)

pub returns-clause-ok : goal.returns-clause-ok
returns-clause-ok g c =
    let b = c.self.inside in
    rw (← c.self.view_is, c.in-Some.is, c.write.ensures, c.in_ok-copy.ensures.same, c.in_ok-copy.ensures.ok)
    (IsDone-written g.C.FileIdCache.rules b.core c.add_error-2.new.self b.is_whole c.in-Some.journal.items
    c.args.from (ErrorCommand c.args.error) NotedReply
    c.in_ok-add_error.ensures.ok)
