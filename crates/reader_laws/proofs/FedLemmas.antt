-- What a feed's history says of the events that it was given.
use Rattle.std.proofs.Common.{◌≡◌, ℕ, ◌+◌, Bool, true, false, if◌then◌else◌, List, [], ◌∷◌, ◌++◌, Result, Ok, Err, sym, refl, ap, ◌∙◌, ⊎_elim, append_assoc, append-nil, arith}
use Rattle.notify_paths.specs.Errors.{ErrorValue}
use Rattle.notify_types.specs.Event.{EventValue}
use Rattle.debounce_model.specs.Command.{CommandValue, EventCommand, ReplyValue, TakenReply}
use Rattle.debounce_model.specs.Play.{accepted}
use Rattle.debounce_book.specs.Journal.{EntryValue}
use Rattle.debounce_book.specs.JournalLaws.{commands_of, replies_of}
use Rattle.debounce_lock.specs.History.{picked}
use Rattle.debounce_run.specs.Access.Adds.{FeedsItem, IsFedBy, ItemMakes}
use Rattle.debounce_run.specs.Access.Happened.{HappenedValue, History, Opened, Accepted, Missed, entries_of, is_fed, missed_in, misses, takes}
use Rattle.debounce_run.specs.Access.Stands.{Known}
use Rattle.reader_laws.proofs.Unmissed.{NotesWhole}

-- the events that were taken, in order
abbrev pub noted : History → List EventValue
noted hs = accepted (commands_of (entries_of hs)) (replies_of (entries_of hs))

-- what was fed so far, as events
abbrev pub notes_of : Known → List EventValue
notes_of f = noted (picked is_fed f.seen)

-- how much of it was missed
abbrev pub misses_of : Known → ℕ
misses_of f = missed_in (picked is_fed f.seen)

-- what one command gives
abbrev front : CommandValue → ReplyValue → List EventValue
front c y = accepted (c ∷ []) (y ∷ [])

-- the first command gives its own
front_is : (c : CommandValue) (y : ReplyValue) (cs : List CommandValue) (ys : List ReplyValue)
    → accepted (c ∷ cs) (y ∷ ys) ≡ front c y ++ accepted cs ys
front_is (EventCommand event now exists) (TakenReply answer) cs ys = refl
front_is c y cs ys = refl

-- .. which is nothing, if it wasn't fed
quiet_front : (c : CommandValue) (y : ReplyValue) → takes c ≡ false → front c y ≡ []
quiet_front (EventCommand event now exists) y h = cc
quiet_front c y h = refl

-- what was noted first
noted_one : (e : EntryValue) (hs : History) → noted (Accepted e ∷ hs) ≡ front e.command e.reply ++ noted hs
noted_one e hs = front_is e.command e.reply (commands_of (entries_of hs)) (replies_of (entries_of hs))

-- what was fed has all that was noted
pub noted_picked : (hs : History) → noted (picked is_fed hs) ≡ noted hs
noted_picked [] = refl
noted_picked (Opened timeout journaled ∷ hs) = noted_picked hs
noted_picked (Missed ∷ hs) = noted_picked hs
noted_picked (Accepted e ∷ hs) = by (takes e.command) refl (noted_picked hs)
  where
    by : (b : Bool) → takes e.command ≡ b → noted (picked is_fed hs) ≡ noted hs
        → noted (if b then Accepted e ∷ picked is_fed hs else picked is_fed hs) ≡ noted (Accepted e ∷ hs)
    by true h rest = noted_one e (picked is_fed hs) ∙ ap (λ l. front e.command e.reply ++ l) rest
        ∙ sym (noted_one e hs)
    by false h rest = rest ∙ sym (noted_one e hs ∙ ap (λ l. l ++ noted hs) (quiet_front e.command e.reply h))

-- .. and all that was missed
pub missed_picked : (hs : History) → missed_in (picked is_fed hs) ≡ missed_in hs
missed_picked [] = refl
missed_picked (Opened timeout journaled ∷ hs) =
    let rest : missed_in (picked is_fed hs) ≡ missed_in hs = missed_picked hs in omega arith
missed_picked (Missed ∷ hs) = ap (λ n. 1 + n) (missed_picked hs)
missed_picked (Accepted e ∷ hs) = by (takes e.command) (missed_picked hs)
  where
    by : (b : Bool) → missed_in (picked is_fed hs) ≡ missed_in hs
        → missed_in (if b then Accepted e ∷ picked is_fed hs else picked is_fed hs) ≡ missed_in (Accepted e ∷ hs)
    by true rest = omega arith
    by false rest = omega arith

-- what was noted of one history and then of another
noted_append : (xs ys : History) → noted (xs ++ ys) ≡ noted xs ++ noted ys
noted_append [] ys = refl
noted_append (Opened timeout journaled ∷ xs) ys = noted_append xs ys
noted_append (Missed ∷ xs) ys = noted_append xs ys
noted_append (Accepted e ∷ xs) ys = noted_one e (xs ++ ys)
    ∙ ap (λ l. front e.command e.reply ++ l) (noted_append xs ys)
    ∙ sym (append_assoc (front e.command e.reply) (noted xs) (noted ys))
    ∙ ap (λ l. l ++ noted ys) (sym (noted_one e xs))

-- .. and how much was missed
missed_append : (xs ys : History) → missed_in (xs ++ ys) ≡ missed_in xs + missed_in ys
missed_append [] ys = omega arith
missed_append (x ∷ xs) ys =
    let rest : missed_in (xs ++ ys) ≡ missed_in xs + missed_in ys = missed_append xs ys in omega arith

-- what is missed counts
one_none : misses Missed ≡ 0 → ⊥
one_none h = absurd (cc)

-- one more thing was fed
record Gains (before after : Known) (h : HappenedValue) : Type 0 where
  noted_more : notes_of after ≡ notes_of before ++ noted (h ∷ [])
  missed_more : misses_of after ≡ misses_of before + misses h

-- .. with what it noted and missed
gained : (before after : Known) (h : HappenedValue)
    → picked is_fed after.seen ≡ picked is_fed before.seen ++ h ∷ [] → Gains before after h
gained before after h is =
    let one : missed_in (h ∷ []) ≡ misses h = omega arith in
    record {
      noted_more = ap noted is ∙ noted_append (picked is_fed before.seen) (h ∷ []);
      missed_more = ap missed_in is ∙ missed_append (picked is_fed before.seen) (h ∷ [])
          ∙ ap (λ n. misses_of before + n) one;
    }

-- nothing is nothing and nothing
none_before : (a b m : ℕ) → b ≡ a + m → b ≡ 0 → (a ≡ 0) × (m ≡ 0)
none_before a b m h none = (omega arith, omega arith)

-- if nothing was missed, then this wasn't, nor anything before
unmissed : (before after : Known) (h : HappenedValue) → misses_of after ≡ misses_of before + misses h
    → misses_of after ≡ 0 → (misses_of before ≡ 0) × (h ≡ Missed → ⊥)
unmissed before after h is none =
    let both = none_before (misses_of before) (misses_of after) (misses h) is none in
    (both.0, λ missed. absurd (one_none (sym (ap misses missed) ∙ both.1)))

-- what an item leaves of the notes, if nothing was missed
item_noted : (before after : Known) (item : Result EventValue ErrorValue) → FeedsItem before item after
    → misses_of after ≡ 0 → (events : List EventValue)
    → ((h : HappenedValue) → (now : ℕ) × (exists : Bool) × IsFedBy item now exists h → noted (h ∷ []) ≡ events)
    → (misses_of before ≡ 0) × (notes_of after ≡ notes_of before ++ events)
item_noted before after item fed none events gives =
    let h = fed.1.0 in
    let makes : ItemMakes item h = fed.1.1 in
    let more = gained before after h fed.1.2.1 in
    let u = unmissed before after h more.missed_more none in (
      u.0,
      ⊎_elim
          (λ (taken : (now : ℕ) × (exists : Bool) × IsFedBy item now exists h).
          more.noted_more ∙ ap (λ es. notes_of before ++ es) (gives h taken))
          (λ (missed : h ≡ Missed). absurd (u.1 missed)) makes,
    )

-- a feed's notes are whole where nothing was missed, and are the events that it was given then
pub feed_notes : NotesWhole FeedsItem (λ f. misses_of f ≡ 0) notes_of
feed_notes = record {
  event = λ before after e fed none.
      item_noted before after (Ok e) fed none (e ∷ []) (λ h taken. ap (λ x. noted (x ∷ [])) taken.2.1);
  error = λ before after e fed none.
      let both = item_noted before after (Err e) fed none [] (λ h taken. ap (λ x. noted (x ∷ [])) taken.2.1) in
      (both.0, both.1 ∙ append-nil (notes_of before));
}
