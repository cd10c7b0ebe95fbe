-- What is taken out is what was held, and a part begins where it led.
use Rattle.std.proofs.Common.{◌∙◌}
use Rattle.debounce_book.proofs.Replay.{LeadsTo-taken}
use Rattle.debounce_book.proofs.Shown.{IsLegal-shown, IsPart-shown, parted-none, parted-some, written-none, written-some}
use Rattle.debounce_book.proofs.book.Book.take_journal.Goals as goal

pub returns-in_default-clause-journal : goal.returns-in_default-clause-journal
returns-in_default-clause-journal g c =
    let b = c.self.inside in
    rw (← c.self.view_is, c.in_default.is) (c.new.ensures.items ∙ written-none b.core b.is_whole)

pub returns-in_default-clause-legal : goal.returns-in_default-clause-legal
returns-in_default-clause-legal g c =
    let b = c.self.inside in
    rw (← c.self.view_is) (IsLegal-shown (λ v. v.items) b.is_whole b.journal b.core.state c.self.invariant)

pub returns-in_default-clause-part : goal.returns-in_default-clause-part
returns-in_default-clause-part g c =
    let b = c.self.inside in
    rw (← c.self.view_is) (IsPart-shown (λ v. v.items) b.is_whole b.journal b.core.state c.self.invariant)

pub returns-in_default-clause-parted : goal.returns-in_default-clause-parted
returns-in_default-clause-parted g c =
    let b = c.self.inside in
    rw (← c.self.view_is, c.in_default.is) (parted-none b.core b.is_whole)

pub invariant_of-self-2 : goal.invariant_of-self-2
invariant_of-self-2 g c =
    let b = c.self.inside in
    let leads = rw c.in-Some.is at c.self.invariant in
    rw (c.replace-entries.ensures.after, c.new-2.ensures.items)
    (LeadsTo-taken b.is_whole c.in-Some.journal.items b.core.state leads)

pub returns-clause-journal : goal.returns-clause-journal
returns-clause-journal g c =
    let b = c.self.inside in
    rw (← c.self.view_is, c.in-Some.is, c.replace-entries.ensures.value)
    (written-some b.core b.is_whole c.in-Some.journal.items)

pub returns-clause-legal : goal.returns-clause-legal
returns-clause-legal g c =
    let b = c.self.inside in
    rw (← c.self.view_is) (IsLegal-shown (λ v. v.items) b.is_whole b.journal b.core.state c.self.invariant)

pub returns-clause-part : goal.returns-clause-part
returns-clause-part g c =
    let b = c.self.inside in
    rw (← c.self.view_is) (IsPart-shown (λ v. v.items) b.is_whole b.journal b.core.state c.self.invariant)

pub returns-clause-parted : goal.returns-clause-parted
returns-clause-parted g c =
    let b = c.self.inside in
    rw (← c.self.view_is, c.in-Some.is, c.replace-entries.ensures.after, c.new-2.ensures.items)
    (parted-some b.core b.is_whole c.in-Some.journal.items)
