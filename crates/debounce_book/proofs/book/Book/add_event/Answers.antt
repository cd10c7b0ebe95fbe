-- What the core answers is what the book answers, with one entry if a journal is kept.
use Rattle.std.proofs.Common.{◌∙◌, Some, inr, refl}
use Rattle.std.proofs.lemmas.Result.{err_from_is_err_and}
use Rattle.debounce_model.specs.Command.{EventCommand, TakenReply}
use Rattle.debounce_book.proofs.Replay.{IsDone-written, IsNotDone-refused, IsUnwritten-kept, LeadsTo-refused, LeadsTo-written}
use Rattle.debounce_book.proofs.book.Book.add_event.Goals as goal

pub returns-in_err-copy-clause-err : goal.returns-in_err-copy-clause-err
returns-in_err-copy-clause-err g c =
    let b = c.self.inside in
    let p = err_from_is_err_and c.from_residual.result c.from_residual.ensures.1 in
    rw (p.1, p.2, ← c.self.view_is, c.in-Some.is, c.in_err-copy.ensures.same)
    (inr
    (IsUnwritten-kept b.core b.is_whole c.in-Some.journal.items (EventCommand c.args.event c.args.now c.args.exists)
    _ c.in_err-copy.ensures.err (λ full. c.if-taken.false (c.taken.ensures ∙ full))))

pub invariant_of-self-in_err-add_event : goal.invariant_of-self-in_err-add_event
invariant_of-self-in_err-add_event g c =
    let b = c.self.inside in
    let leads = rw c.in-Some.is at c.self.invariant in
    rw c.in_ok-copy.ensures.same
    (LeadsTo-refused g.C.FileIdCache.rules b.core c.add_event-2.new.self b.is_whole c.in-Some.journal.items
    (EventCommand c.args.event c.args.now c.args.exists) _ c.in_err-add_event.ensures.err leads)

pub returns-in_err-add_event-clause-err : goal.returns-in_err-add_event-clause-err
returns-in_err-add_event-clause-err g c =
    let b = c.self.inside in
    let p = err_from_is_err_and c.from_residual-in_err-add_event.result c.from_residual-in_err-add_event.ensures.1 in
    rw (p.1, p.2, ← c.self.view_is, c.in-Some.is, c.in_ok-copy.ensures.same)
    (IsNotDone-refused g.C.FileIdCache.rules b.core c.add_event-2.new.self b.is_whole (Some c.in-Some.journal.items)
    (EventCommand c.args.event c.args.now c.args.exists) _
    c.in_err-add_event.ensures.err)

pub invariant_of-self-2 : goal.invariant_of-self-2
invariant_of-self-2 g c =
    let b = c.self.inside in
    let leads = rw c.in-Some.is at c.self.invariant in
    rw (c.write.ensures, c.in_ok-copy.ensures.same, c.in_ok-copy.ensures.ok, c.answer.ensures)
    (LeadsTo-written g.C.FileIdCache.rules b.core c.add_event-2.new.self b.is_whole c.in-Some.journal.items
    c.args.from (EventCommand c.args.event c.args.now c.args.exists) (TakenReply c.add_event-2.new.self.answer) refl
    (c.in_ok-add_event.ensures.ok, refl) leads)

pub returns-clause-ok : goal.returns-clause-ok
returns-clause-ok g c =
    let b = c.self.inside in
    rw (
      ← c.self.view_is,
      c.in-Some.is,
      c.write.ensures,
      c.in_ok-copy.ensures.same,
      c.in_ok-copy.ensures.ok,
      c.answer.ensures,
    )
    (IsDone-written g.C.FileIdCache.rules b.core c.add_event-2.new.self b.is_whole c.in-Some.journal.items
    c.args.from (EventCommand c.args.event c.args.now c.args.exists) (TakenReply c.add_event-2.new.self.answer)
    (c.in_ok-add_event.ensures.ok, refl))
