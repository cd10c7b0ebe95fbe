-- What the core answers is what the book answers, with one entry if a journal is kept.
use Rattle.std.proofs.Common.{inr, refl}
use Rattle.std.proofs.lemmas.Result.{err_from_is_err_and, on_ok_weaker}
use Rattle.debounce_model.specs.Command.{RootCommand, RootedReply}
use Rattle.debounce_book.proofs.Replay.{IsDone-bare, IsDone-written, IsUnwritten-kept, LeadsTo-written}
use Rattle.debounce_book.proofs.book.Book.add_root.Goals as goal

pub returns-in_default-clause-ok : goal.returns-in_default-clause-ok
returns-in_default-clause-ok g c =
    let b = c.self.inside in
    rw (← c.self.view_is, c.in_default.is)
    (on_ok_weaker _
    (IsDone-bare g.C.FileIdCache.rules b.core c.add_root.new.self b.is_whole c.args.from
    (RootCommand c.args.path.now c.args.mode) RootedReply) c.add_root.ensures.ok)

pub returns-in_err-copy-clause-err : goal.returns-in_err-copy-clause-err
returns-in_err-copy-clause-err g c =
    let b = c.self.inside in
    let p = err_from_is_err_and c.from_residual.result c.from_residual.ensures.1 in
    rw (p.1, p.2, ← c.self.view_is, c.in-Some.is, c.in_err-copy.ensures.same)
    (inr
    (IsUnwritten-kept b.core b.is_whole c.in-Some.journal.items (RootCommand c.args.path.now c.args.mode) _
    c.in_err-copy.ensures.err (λ f. f)))

pub invariant_of-self-2 : goal.invariant_of-self-2
invariant_of-self-2 g c =
    let b = c.self.inside in
    let leads = rw c.in-Some.is at c.self.invariant in
    rw (c.write.ensures, c.in_ok-copy.ensures.same, c.in_ok-copy.ensures.ok)
    (LeadsTo-written g.C.FileIdCache.rules b.core c.add_root-2.new.self b.is_whole c.in-Some.journal.items
    c.args.from (RootCommand c.args.path.now c.args.mode) RootedReply refl
    c.in_ok-add_root.ensures.ok leads)

pub returns-clause-ok : goal.returns-clause-ok
returns-clause-ok g c =
    let b = c.self.inside in
    rw (← c.self.view_is, c.in-Some.is, c.write.ensures, c.in_ok-copy.ensures.same, c.in_ok-copy.ensures.ok)
    (IsDone-written g.C.FileIdCache.rules b.core c.add_root-2.new.self b.is_whole c.in-Some.journal.items c.args.from
    (RootCommand c.args.path.now c.args.mode) RootedReply
    c.in_ok-add_root.ensures.ok)
