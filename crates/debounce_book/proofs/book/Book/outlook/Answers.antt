-- The outlook is that of the state to which the journal leads, by the type of the book.
use Rattle.std.specs.declared.vec.Vec.{Vec}
use Rattle.std.proofs.lemmas.Result.{IfOk-weaker}
use Rattle.notify_types.specs.Event.{Timed}
use Rattle.debounce_book.proofs.JournalRuns.{kept_ends_in_raw_paths}
use Rattle.debounce_book.proofs.Shown.{IsLegal-shown}
use Rattle.debounce_book.proofs.book.Book.outlook.Goals as goal

pub returns-clause-outlook : goal.returns-clause-outlook
returns-clause-outlook g c = rw (← c.self.view_is) c.outlook.ensures.outlook

pub returns-clause-only : goal.returns-clause-only
returns-clause-only g c = rw (← c.self.view_is) c.outlook.ensures.only

pub returns-clause-raw : goal.returns-clause-raw
returns-clause-raw g c =
    let b = c.self.inside in
    let legal = IsLegal-shown (λ v. v.items) b.is_whole b.journal b.core.state c.self.invariant in
    rw (← c.self.view_is)
    (IfOk-weaker _ _ _ (λ (batch : Vec Timed _) shown. kept_ends_in_raw_paths _ b.core.state batch.items legal shown)
    c.outlook.ensures.outlook)
