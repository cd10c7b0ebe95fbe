-- What the core answers is what the book answers, with one entry if a journal is kept.
use Rattle.std.proofs.Common.{Err, Some, inr, refl}
use Rattle.std.proofs.lemmas.Result.{err_from_is_err_and}
use Rattle.debounce_model.specs.Command.{BatchReply, TickCommand}
use Rattle.debounce_book.proofs.Replay.{IsDone-written, IsNotDone-refused, IsUnwritten-kept, LeadsTo-written, tick-refused}
use Rattle.debounce_book.proofs.book.Book.debounced_events.Goals as goal

pub returns-in_err-reserve-clause-err : goal.returns-in_err-reserve-clause-err
returns-in_err-reserve-clause-err g c =
    let b = c.self.inside in
    let p = err_from_is_err_and c.from_residual.result c.from_residual.ensures.1 in
    rw (p.1, p.2, ← c.self.view_is, c.in-Some.is, c.in_err-reserve.ensures.same)
    (inr
    (IsUnwritten-kept b.core b.is_whole c.in-Some.journal.items (TickCommand c.args.now) _
    c.in_err-reserve.ensures.err (λ f. f)))

pub returns-in_err-copy-clause-err : goal.returns-in_err-copy-clause-err
returns-in_err-copy-clause-err g c =
    let b = c.self.inside in
    let p = err_from_is_err_and c.from_residual-in_err-copy.result c.from_residual-in_err-copy.ensures.1 in
    rw (p.1, p.2, ← c.self.view_is, c.in-Some.is, c.in_ok-reserve.ensures.same)
    (IsNotDone-refused g.C.FileIdCache.rules b.core b.core b.is_whole (Some c.in-Some.journal.items)
    (TickCommand c.args.now) _
    (tick-refused {T = Unit {0}} g.C.FileIdCache.rules b.core b.core c.args.now (Err c.in_err-copy.field-0.0)
    (c.in_err-copy.ensures.err, refl) c.in_err-copy.ensures.sure))

pub returns-in_err-batch-clause-err : goal.returns-in_err-batch-clause-err
returns-in_err-batch-clause-err g c =
    let b = c.self.inside in
    let p = err_from_is_err_and c.from_residual-in_err-batch.result c.from_residual-in_err-batch.ensures.1 in
    rw (p.1, p.2, ← c.self.view_is, c.in-Some.is, c.in_ok-reserve.ensures.same)
    (IsNotDone-refused g.C.FileIdCache.rules b.core c.debounced_events-2.new.self b.is_whole
    (Some c.in-Some.journal.items) (TickCommand c.args.now) _
    (tick-refused {T = Unit {0}} g.C.FileIdCache.rules b.core c.debounced_events-2.new.self c.args.now
    (Err c.in_err-batch.field-0.0) c.in_err-batch.ensures.err c.in_err-batch.ensures.sure))

pub invariant_of-self-2 : goal.invariant_of-self-2
invariant_of-self-2 g c =
    let b = c.self.inside in
    let leads = rw c.in-Some.is at c.self.invariant in
    let copied = c.in_ok-batch.ensures.only c.in_ok-copy.copy.items c.in_ok-copy.ensures.batch in
    rw (c.write.ensures, c.in_ok-reserve.ensures.same, copied)
    (LeadsTo-written g.C.FileIdCache.rules b.core c.debounced_events-2.new.self b.is_whole
    c.in-Some.journal.items c.args.from (TickCommand c.args.now) (BatchReply c.in_ok-batch.batch.items) refl
    (c.in_ok-batch.ensures.batch, c.in_ok-batch.ensures.ok) leads)

pub returns-clause-ok : goal.returns-clause-ok
returns-clause-ok g c =
    let b = c.self.inside in
    let copied = c.in_ok-batch.ensures.only c.in_ok-copy.copy.items c.in_ok-copy.ensures.batch in
    rw (← c.self.view_is, c.in-Some.is, c.write.ensures, c.in_ok-reserve.ensures.same, copied)
    (IsDone-written g.C.FileIdCache.rules b.core c.debounced_events-2.new.self b.is_whole
    c.in-Some.journal.items c.args.from (TickCommand c.args.now) (BatchReply c.in_ok-batch.batch.items)
    (c.in_ok-batch.ensures.batch, c.in_ok-batch.ensures.ok))
