-- Calls that were made in turn are written down in the journal.
use Rattle.std.proofs.Common.{◌≡◌, ◌∙◌, true, not, List, [], ◌∷◌, ◌++◌, Option, Some, None, refl, sym, ap, subst}
use Rattle.std.specs.List.{list_all}
use Rattle.debounce_model.specs.Command.{ReplyValue}
use Rattle.debounce_model.specs.State.{State}
use Rattle.debounce_book.specs.Book.{with_entry}
use Rattle.debounce_book.specs.Journal.{EntryValue, Replays}
use Rattle.debounce_c.specs.Desk.Calls.{CallValue, Feeds, Notes, Watches, Unwatches, Asks, Ticks, Says, FeedsNext, Forgets, Keeps, Looks, Reads, MakesAll, changes_journal, commands_of, entries_of, with_entries}
use Rattle.debounce_c.specs.Desk.{DeskValue}

-- none of the calls begins a journal or ends it
abbrev pub KeepsJournal : List CallValue → Type 0
KeepsJournal calls = list_all (λ call. not (changes_journal call)) calls ≡ true

-- nothing put behind a list leaves it
append_nothing : (es : List EntryValue) → es ++ [] ≡ es
append_nothing [] = refl
append_nothing (e ∷ es) = ap (λ fs. e ∷ fs) (append_nothing es)

-- one entry and then others, put behind a list
append_entry : (es : List EntryValue) (e : EntryValue) (more : List EntryValue) →
    (es ++ e ∷ []) ++ more ≡ es ++ e ∷ more
append_entry [] e more = refl
append_entry (x ∷ es) e more = ap (λ fs. x ∷ fs) (append_entry es e more)

-- no entries leave a journal
with_entries-none : (journal : Option (List EntryValue)) → with_entries journal [] ≡ journal
with_entries-none None = refl
with_entries-none (Some es) = ap (λ fs. Some fs) (append_nothing es)

-- one entry, and then others
with_entries-one : (journal : Option (List EntryValue)) (e : EntryValue) (more : List EntryValue) →
    with_entries (with_entry journal e) more ≡ with_entries journal (e ∷ more)
with_entries-one None e more = refl
with_entries-one (Some es) e more = ap (λ fs. Some fs) (append_entry es e more)

-- a journal that got one entry, and then others
one_more : (old mid new : Option (List EntryValue)) (e : EntryValue) (more : List EntryValue) → mid ≡ with_entry old e →
    new ≡ with_entries mid more → new ≡ with_entries old (e ∷ more)
one_more old mid new e more is rest =
    rest ∙ ap (λ j. with_entries j more) is ∙ with_entries-one old e more

-- a journal that is the same, and then got others
none_more : (old mid new : Option (List EntryValue)) (more : List EntryValue) → mid ≡ old →
    new ≡ with_entries mid more → new ≡ with_entries old more
none_more old mid new more is rest = rest ∙ ap (λ j. with_entries j more) is

-- the journal got the entries of calls that were made in turn
pub journal_got : (calls : List CallValue) (replies : List ReplyValue) (s t : DeskValue) → KeepsJournal calls →
    MakesAll calls replies s t → t.journal ≡ with_entries s.journal (entries_of (commands_of calls) replies)
journal_got [] replies s t same (none, is) =
    ap (λ (d : DeskValue). d.journal) is ∙ sym (with_entries-none s.journal)
journal_got (Feeds event now exists ∷ calls) replies s t same (m, rest, split, made, more) =
    rw split (one_more _ m.journal _ _ _ (ap (λ (d : DeskValue). d.journal) made.1) (journal_got calls rest m t same
    more))
journal_got (Notes error ∷ calls) replies s t same (m, rest, split, made, more) =
    rw split (one_more _ m.journal _ _ _ (ap (λ (d : DeskValue). d.journal) made) (journal_got calls rest m t same
    more))
journal_got (Watches path mode ∷ calls) replies s t same (m, rest, split, made, more) =
    rw split (one_more _ m.journal _ _ _ (ap (λ (d : DeskValue). d.journal) made.1) (journal_got calls rest m t same
    more))
journal_got (Unwatches path ∷ calls) replies s t same (m, rest, split, made, more) =
    rw split (one_more _ m.journal _ _ _ (ap (λ (d : DeskValue). d.journal) made.1) (journal_got calls rest m t same
    more))
journal_got (Asks ∷ calls) replies s t same (m, rest, split, made, more) =
    rw (split, ap (λ (d : DeskValue). d.errors) made.1.rest)
    (one_more _ m.journal _ _ _ (ap (λ (d : DeskValue). d.journal) made.1.rest) (journal_got calls rest m t same more))
journal_got (Ticks now ∷ calls) replies s t same (m, rest, split, made, more) =
    rw split (one_more _ m.journal _ _ _ (ap (λ (d : DeskValue). d.journal) made.1.rest)
    (journal_got calls rest m t same more))
journal_got (Says path id ∷ calls) replies s t same (m, rest, split, made, more) =
    rw split (none_more _ m.journal _ _ (ap (λ (d : DeskValue). d.journal) made) (journal_got calls rest m t same more))
journal_got (Forgets path ∷ calls) replies s t same (m, rest, split, made, more) =
    rw split (none_more _ m.journal _ _ (ap (λ (d : DeskValue). d.journal) made) (journal_got calls rest m t same more))
journal_got (Keeps on ∷ calls) replies s t same made = cc
journal_got (Looks call ∷ calls) replies s t same (m, rest, split, made, more) =
    rw split
    (none_more _ m.journal _ _ (ap (λ (d : DeskValue). d.journal) made.1) (journal_got calls rest m t same more))
journal_got (FeedsNext event now ∷ calls) replies s t same (m, rest, split, made, more) =
    rw split (one_more _ m.journal _ _ _ (ap (λ (d : DeskValue). d.journal) made.rest) (journal_got calls rest m t same
    more))
journal_got (Reads ∷ calls) replies s t same (m, rest, split, made, more) =
    rw split (none_more _ m.journal _ _ made.1 (journal_got calls rest m t same more))

-- .. and these lead from state to state
pub entries_lead : (calls : List CallValue) (replies : List ReplyValue) (s t : DeskValue) → MakesAll calls replies s t →
    Replays s.core.state (entries_of (commands_of calls) replies) t.core.state
entries_lead [] replies s t (none, is) = ap (λ (d : DeskValue). d.core.state) is
entries_lead (Feeds event now exists ∷ calls) replies s t (m, rest, split, made, more) =
    rw split (m.core.state, (made.0.room, made.0.state), entries_lead calls rest m t more)
entries_lead (Notes error ∷ calls) replies s t (m, rest, split, made, more) =
    rw split (m.core.state, ap (λ (d : DeskValue). d.core.state) made, entries_lead calls rest m t more)
entries_lead (Watches path mode ∷ calls) replies s t (m, rest, split, made, more) =
    rw split (m.core.state, ap (λ k. k.state) made.0.0, entries_lead calls rest m t more)
entries_lead (Unwatches path ∷ calls) replies s t (m, rest, split, made, more) =
    rw split (m.core.state, ap (λ k. k.state) made.0.0, entries_lead calls rest m t more)
entries_lead (Asks ∷ calls) replies s t (m, rest, split, made, more) =
    rw split (
      m.core.state,
      (ap (λ (d : DeskValue). d.errors) made.1.rest, ap (λ (d : DeskValue). d.core.state) made.1.rest),
      entries_lead calls rest m t more,
    )
entries_lead (Ticks now ∷ calls) replies s t (m, rest, split, made, more) =
    rw split (
      m.core.state,
      (made.1.batch, ap (λ (d : DeskValue). d.core.state) made.1.rest),
      entries_lead calls rest m t more,
    )
entries_lead (Says path id ∷ calls) replies s t (m, rest, split, made, more) =
    rw split
    (subst (λ (k : State). Replays k (entries_of (commands_of calls) rest) t.core.state)
    (ap (λ (d : DeskValue). d.core.state) made) (entries_lead calls rest m t more))
entries_lead (Forgets path ∷ calls) replies s t (m, rest, split, made, more) =
    rw split
    (subst (λ (k : State). Replays k (entries_of (commands_of calls) rest) t.core.state)
    (ap (λ (d : DeskValue). d.core.state) made) (entries_lead calls rest m t more))
entries_lead (Keeps on ∷ calls) replies s t (m, rest, split, made, more) =
    rw split
    (subst (λ (k : State). Replays k (entries_of (commands_of calls) rest) t.core.state)
    (ap (λ (d : DeskValue). d.core.state) made) (entries_lead calls rest m t more))
entries_lead (Looks call ∷ calls) replies s t (m, rest, split, made, more) =
    rw split
    (subst (λ (k : State). Replays k (entries_of (commands_of calls) rest) t.core.state)
    (ap (λ (d : DeskValue). d.core.state) made.1) (entries_lead calls rest m t more))
entries_lead (FeedsNext event now ∷ calls) replies s t (m, rest, split, made, more) =
    rw split (m.core.state, (made.taken.room, made.taken.state), entries_lead calls rest m t more)
entries_lead (Reads ∷ calls) replies s t (m, rest, split, made, more) =
    rw split
    (subst (λ (k : State). Replays k (entries_of (commands_of calls) rest) t.core.state)
    (ap (λ k. k.state) made.0) (entries_lead calls rest m t more))
