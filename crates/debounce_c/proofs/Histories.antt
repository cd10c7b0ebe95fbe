-- A call that answered 0 has made its step, and any other has changed nothing.
use Rattle.std.proofs.Common.{◌≡◌, ◌∙◌, ℕ, ◌==◌, Bool, true, false, List, [], ◌∷◌, ◌++◌, Option, Some, None, true≢false, refl, sym, ap, subst, inl, inr}
use Rattle.std.specs.Prelude.{⊤}
use Rattle.notify_types.specs.Event.{EventValue}
use Rattle.debounce_model.specs.Command.{ReplyValue}
use Rattle.debounce_c.specs.Desk.Answers.{AnswersFor}
use Rattle.debounce_c.specs.Desk.Calls.{CallValue, FeedsNext, Keeps, Looks, Makes, MakesAll, Reads, reply_to}
use Rattle.debounce_c.specs.Desk.Looks.{Begins, EndsKnown, IsFedNext, LateAnswersFor, LeavesLook, feed_fault, known_fault}
use Rattle.debounce_c.specs.Desk.Codes.{fault_code}
use Rattle.debounce_c.specs.Desk.{DeskValue}
use Rattle.debounce_c.specs.Desk.Tells.{TellsCounts}
use Rattle.debounce_c.specs.declared.desk.fault.Fault.{Fault}
use Rattle.debounce_c.specs.declared.desk.fault.Fault.TheVariants.{Empty, NoMemory, Full, NotText, NoKind, Unread, AtEnd, TooShort, TooManyPaths, BadCounts, NoFolder, Unfed, Begun}
use Rattle.debounce_c.specs.Programs.{ExportValue, CallsWatch, CallsUnwatch, CallsMode, CallsNumber, CallsForget, CallsNumberOf, CallsEvent, CallsError, CallsTick, CallsOutlook, CallsNext, CallsErrors, CallsNextError, CallsJournal, CallsEntry, CallsEntryEvent, CallsEntryError, CallsCounts, CallsLookBegin, CallsFound, CallsGone, CallsStill, CallsChanged, CallsLookEnd, CallsLookKnown, CallsLookFeed, CallsKnown, AreAnswered, History, IsAnswered, Knows, call_of, done}

-- what a call with this code, on a handle that holds s, has left: its step, or s
pub record Leaves (call : CallValue) (code : ℕ) (s : DeskValue) (new : Option DeskValue) : Type 0 where
  pub t : DeskValue
  pub held : new ≡ Some t
  pub step : (code == 0) ≡ true → Makes call s t
  pub same : (code == 0) ≡ false → t ≡ s

-- no fault has the code 0
fault_code-positive : (f : Fault) → (fault_code f == 0) ≡ false
fault_code-positive Empty = refl
fault_code-positive NoMemory = refl
fault_code-positive Full = refl
fault_code-positive NotText = refl
fault_code-positive NoKind = refl
fault_code-positive Unread = refl
fault_code-positive AtEnd = refl
fault_code-positive TooShort = refl
fault_code-positive TooManyPaths = refl
fault_code-positive BadCounts = refl
fault_code-positive NoFolder = refl
fault_code-positive Unfed = refl
fault_code-positive Begun = refl

-- a call that answered a fault's code has left s
refused : (call : CallValue) (code : ℕ) (f : Fault) (s : DeskValue) (new : Option DeskValue) → code ≡ fault_code f →
    new ≡ Some s → Leaves call code s new
refused call code f s new is held =
    let other : (code == 0) ≡ false = rw is (fault_code-positive f) in
    record {
      t = s;
      held = held;
      step = λ zero. absurd (true≢false (sym zero ∙ other));
      same = λ e. refl;
    }

-- a call that answered 0 has made its step
stepped : (call : CallValue) (code : ℕ) (s t : DeskValue) (new : Option DeskValue) → code ≡ 0 → new ≡ Some t →
    Makes call s t → Leaves call code s new
stepped call code s t new is held step =
    let zero : (code == 0) ≡ true = rw is refl in
    record {
      t = t;
      held = held;
      step = λ e. step;
      same = λ other. absurd (true≢false (sym zero ∙ other));
    }

-- what is answered for a fault, or for none
answered_with : (call : CallValue) (code : ℕ) (fault : Option Fault) (needs : Bool) (Step : DeskValue → Type 0)
    (Kept : Fault → Type 0) (s : DeskValue) (new : Option DeskValue) →
    ((t : DeskValue) → code ≡ 0 → new ≡ Some t → Step t → Makes call s t) →
    AnswersFor code fault needs Step Kept s new → Leaves call code s new
answered_with call code (Some f) needs Step Kept s new makes (is, kept) = refused call code f s new is kept.1
answered_with call code None needs Step Kept s new makes (inl (t, is, held, step)) =
    stepped call code s t new is held (makes t is held step)
answered_with call code None needs Step Kept s new makes (inr (is, need, kept)) =
    refused call code NoMemory s new is kept.1

-- .. whatever the code and what is held then
answered_for : (call : CallValue) (code : ℕ) (fault : Option Fault) (needs : Bool) (Step : DeskValue → Type 0)
    (Kept : Fault → Type 0) (s : DeskValue) (new : Option DeskValue) →
    ((t : DeskValue) → Step t → Makes call s t) → AnswersFor code fault needs Step Kept s new → Leaves call code s new
answered_for call code fault needs Step Kept s new makes h =
    answered_with call code fault needs Step Kept s new (λ t is held step. makes t step) h

-- what is answered if one of the faults is found after memory is asked for
answered_late : (call : CallValue) (code : ℕ) (fault late : Option Fault) (s : DeskValue) (new : Option DeskValue) →
    LateAnswersFor code fault late (Makes call s) s new → Leaves call code s new
answered_late call code (Some f) late s new (is, held) = refused call code f s new is held
answered_late call code None late s new (inl (t, is, held, step)) = stepped call code s t new is held step
answered_late call code None late s new (inr (f, is, which, held)) = refused call code f s new is held

-- a call that left all has left the core, the journal and what is known and said
all_same : (s t : DeskValue) → t ≡ s → Makes Reads s t
all_same s t same = (
  ap (λ (d : DeskValue). d.core) same,
  ap (λ (d : DeskValue). d.journal) same,
  ap (λ (d : DeskValue). d.looker) same,
)

-- .. also if it told something
same_core : {P : Type 0} (s t : DeskValue) → P × (t ≡ s) → Makes Reads s t
same_core s t (told, same) = all_same s t same

-- one value is another
of_some : {X : Type 0} {x y : X} → Some x ≡ Some y → x ≡ y
of_some h = cc

-- each call has made its step, or left s
pub answered : (call : ExportValue) (code : ℕ) (s : DeskValue) (new : Option DeskValue) →
    IsAnswered call code (Some s) new → Leaves (call_of call) code s new
answered (CallsWatch path recursive) code s new h = answered_for _ code _ _ _ _ s new (λ t step. step) h
answered (CallsUnwatch path) code s new h = answered_for _ code _ _ _ _ s new (λ t step. step) h
answered (CallsMode path) code s new (b, c, h) =
    answered_for _ code _ _ _ _ s new (λ t. same_core s t) h
answered (CallsNumber path device inode) code s new h = answered_for _ code _ _ _ _ s new (λ t step. step) h
answered (CallsForget path) code s new h = answered_for _ code _ _ _ _ s new (λ t step. step) h
answered (CallsNumberOf path) code s new (b, c, h) =
    answered_for _ code _ _ _ _ s new (λ t. same_core s t) h
answered (CallsEvent c a first second info source) code s new h =
    answered_for _ code _ _ _ _ s new (λ t step. step) h
answered (CallsError kind has_path text path) code s new h = answered_for _ code _ _ _ _ s new (λ t step. step) h
answered (CallsTick now) code s new (b, c, h) = answered_for _ code _ _ _ _ s new (λ t step. (c, step)) h
answered CallsOutlook code s new (b, c, h) =
    answered_for _ code _ _ _ _ s new (λ (t : DeskValue) step. (
      ap (λ (d : DeskValue). d.core) step.rest,
      ap (λ (d : DeskValue). d.journal) step.rest,
      ap (λ (d : DeskValue).
          d.looker) step.rest,
    )) h
answered CallsNext code s new (b, c, m, n, h) =
    answered_for _ code _ _ _ _ s new (λ t (x, at, told, text, is).
    (ap (λ (d : DeskValue). d.core) is, ap (λ (d : DeskValue). d.journal) is, ap (λ (d : DeskValue). d.looker) is)) h
answered CallsErrors code s new (b, c, h) = answered_for _ code _ _ _ _ s new (λ t step. (c, step)) h
answered CallsNextError code s new (b, c, m, n, h) =
    answered_for _ code _ _ _ _ s new (λ t (x, at, told, text, is).
    (ap (λ (d : DeskValue). d.core) is, ap (λ (d : DeskValue). d.journal) is, ap (λ (d : DeskValue). d.looker) is)) h
answered (CallsJournal on) code s new h =
    answered_for (Keeps on) code None false (Makes (Keeps on) s) (λ f. ⊤) s new (λ t step. step) h
answered (CallsEntry place) code s new (b, c, m, n, h) =
    answered_for _ code _ _ _ _ s new (λ t (e, at, told, text, is). all_same s t is) h
answered (CallsEntryEvent place within) code s new (b, c, m, n, h) =
    answered_for _ code _ _ _ _ s new (λ t (x, at, told, text, is). all_same s t is) h
answered (CallsEntryError place within) code s new (b, c, m, n, h) =
    answered_for _ code _ _ _ _ s new (λ t (e, at, told, text, is). all_same s t is) h
answered CallsCounts code s new (b, c, h) =
    answered_for Reads code None false (λ t. TellsCounts s c × (t ≡ s)) (λ f. c ≡ b) s new (λ t. same_core s t) h
answered CallsLookBegin code s new h =
    answered_for (Looks Begins) code None false (Makes (Looks Begins) s) (λ f. ⊤) s new (λ t step. step) h
answered (CallsFound path stands) code s new h = answered_late _ code _ _ s new h
answered (CallsGone path) code s new h = answered_for _ code _ _ _ _ s new (λ t step. step) h
answered (CallsStill path) code s new h = answered_late _ code _ _ s new h
answered (CallsChanged path) code s new h = answered_for _ code _ _ _ _ s new (λ t step. step) h
answered CallsLookEnd code s new (b, c, h) = answered_for _ code _ _ _ _ s new (λ t step. step.0) h
answered (CallsLookKnown known) code s new (knows, h) =
    answered_with (Looks (EndsKnown known)) code (known_fault s) true
    (λ (t : DeskValue). LeavesLook (EndsKnown t.looker.known) s t) (λ f. ⊤) s new
    (λ (t : DeskValue) is held step.
    let same : t.looker.known ≡ known = subst (Knows known) held (knows is) in
    subst (λ k. LeavesLook (EndsKnown k) s t) same step) h
answered (CallsLookFeed event now) code s new (next, h) =
    answered_with (FeedsNext event now) code (feed_fault s) true
    (λ (t : DeskValue). (e : EventValue) × IsFedNext s e now t) (λ f. ⊤) s new
    (λ (t : DeskValue) is held step.
    let same : step.0 ≡ event = of_some (sym step.1.next ∙ next is) in
    subst (λ e. IsFedNext s e now t) same step.1) h
answered (CallsKnown path) code s new (b, c, h) =
    answered_for _ code _ _ _ _ s new (λ t. same_core s t) h

-- what a history has left: the calls that answered 0 were made in turn
pub record HasMade (history : History) (s : DeskValue) (new : Option DeskValue) : Type 0 where
  pub t : DeskValue
  pub replies : List ReplyValue
  pub held : new ≡ Some t
  pub made : MakesAll (done history) replies s t

-- .. of each history
pub has_made : (history : History) (s : DeskValue) (new : Option DeskValue) → AreAnswered history (Some s) new →
    HasMade history s new
has_made [] s new h = record { t = s; replies = []; held = h; made = (refl, refl) }
has_made ((call, code) ∷ history) s new (mid, first, more) =
    let l = answered call code s mid first in
    let rest : HasMade history l.t new = has_made history l.t new (rw l.held at more) in
    by (code == 0) refl l rest
  where
    by : (b : Bool) → (code == 0) ≡ b → (l : Leaves (call_of call) code s mid) → HasMade history l.t new →
        HasMade ((call, code) ∷ history) s new
    by true zero l rest = record {
      t = rest.t;
      replies = reply_to (call_of call) l.t ++ rest.replies;
      held = rest.held;
      made = rw zero (l.t, rest.replies, refl, l.step zero, rest.made);
    }
    by false other l rest = record {
      t = rest.t;
      replies = rest.replies;
      held = rest.held;
      made =
          rw other
          (subst (λ (d : DeskValue). MakesAll (done history) rest.replies d rest.t) (l.same other) rest.made);
    }
