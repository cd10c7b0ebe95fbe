-- What the core answers is what the book answers, with one entry if a journal is kept.
use Rattle.std.proofs.Common.{◌∙◌, refl, sym}
use Rattle.std.proofs.lemmas.Result.{err_from_is_err_and}
use Rattle.debounce_model.specs.Command.{ErrorsCommand, ErrorsReply}
use Rattle.debounce_book.proofs.Replay.{IsDone-written, IsUnwritten-kept, LeadsTo-written}
use Rattle.debounce_book.proofs.book.Book.errors.Goals as goal

pub returns-in_err-copies-clause-err : goal.returns-in_err-copies-clause-err
returns-in_err-copies-clause-err g c =
    let b = c.self.inside in
    let p = err_from_is_err_and c.from_residual.result c.from_residual.ensures.1 in
    rw (p.1, p.2, ← c.self.view_is, c.in-Some.is, c.in_err-copies.ensures.same)
    (IsUnwritten-kept b.core b.is_whole c.in-Some.journal.items ErrorsCommand _ c.in_err-copies.ensures.err (λ f. f))

pub invariant_of-self-2 : goal.invariant_of-self-2
invariant_of-self-2 g c =
    let b = c.self.inside in
    let leads = rw c.in-Some.is at c.self.invariant in
    rw (c.write.ensures, c.in_ok-copies.ensures.same, c.in_ok-copies.ensures.ok ∙ sym c.errors-errors.ensures.errors)
    (LeadsTo-written g.C.FileIdCache.rules b.core c.errors-errors.new.self b.is_whole c.in-Some.journal.items
    c.args.from ErrorsCommand (ErrorsReply c.errors-errors.result.items) refl
    (c.errors-errors.ensures.errors, c.errors-errors.ensures.state) leads)

pub returns-clause-ok : goal.returns-clause-ok
returns-clause-ok g c =
    let b = c.self.inside in
    rw (
      ← c.self.view_is,
      c.in-Some.is,
      c.write.ensures,
      c.in_ok-copies.ensures.same,
      c.in_ok-copies.ensures.ok ∙ sym
          c.errors-errors.ensures.errors,
    )
    (IsDone-written g.C.FileIdCache.rules b.core c.errors-errors.new.self b.is_whole c.in-Some.journal.items
    c.args.from ErrorsCommand (ErrorsReply c.errors-errors.result.items)
    (c.errors-errors.ensures.errors, c.errors-errors.ensures.state))
