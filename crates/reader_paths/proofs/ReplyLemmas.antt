-- What is played by commands and their replies, one after the other. The functions that go over them cite these.
use Rattle.std.proofs.Common.{◌≡◌, ◌∙◌, sym, ap, ℕ, suc, ◌+◌, ◌<◌, Bool, true, false, ◌&&◌, List, [], ◌∷◌, ◌++◌, length, get_or, drop, ◌⊎◌, inl, inr, refl, add-one, drop-cons}
use Rattle.debounce_model.specs.Honest.{are_honest, is_honest_event}
use Rattle.notify_types.specs.Event.{EventValue, Timed}
use Rattle.debounce_model.specs.Command.{CommandValue, EventCommand, ErrorCommand, RootCommand, UnrootCommand, ErrorsCommand, TickCommand, ReplyValue, TakenReply, NotedReply, RootedReply, UnrootedReply, ErrorsReply, BatchReply, RefusedReply}
use Rattle.debounce_model.specs.Play.{Paths, play, play_one, accepted, events_of}
use Rattle.reader_paths.specs.Played.{accepted_by}

-- without a reply nothing is accepted
accepted_none : (cs : List CommandValue) → accepted cs [] ≡ []
accepted_none [] = refl
accepted_none (EventCommand event now exists ∷ cs) = refl
accepted_none (ErrorCommand error ∷ cs) = refl
accepted_none (RootCommand path mode ∷ cs) = refl
accepted_none (UnrootCommand path ∷ cs) = refl
accepted_none (ErrorsCommand ∷ cs) = refl
accepted_none (TickCommand now ∷ cs) = refl

pub accepted_end : (cs : List CommandValue) (rs : List ReplyValue) → (cs ≡ []) ⊎ (rs ≡ []) → accepted cs rs ≡ []
accepted_end cs rs (inl e) = ap (λ l. accepted l rs) e
accepted_end cs rs (inr e) = ap (λ l. accepted cs l) e ∙ accepted_none cs

accepted_first : (c : CommandValue) (r : ReplyValue) (cs : List CommandValue) (rs : List ReplyValue) →
    accepted (c ∷ cs) (r ∷ rs) ≡ accepted_by c r ++ accepted cs rs
accepted_first (EventCommand event now exists) (TakenReply answer) cs rs = refl
accepted_first (EventCommand event now exists) NotedReply cs rs = refl
accepted_first (EventCommand event now exists) RootedReply cs rs = refl
accepted_first (EventCommand event now exists) UnrootedReply cs rs = refl
accepted_first (EventCommand event now exists) (ErrorsReply errors) cs rs = refl
accepted_first (EventCommand event now exists) (BatchReply batch) cs rs = refl
accepted_first (EventCommand event now exists) (RefusedReply error) cs rs = refl
accepted_first (ErrorCommand error) r cs rs = refl
accepted_first (RootCommand path mode) r cs rs = refl
accepted_first (UnrootCommand path) r cs rs = refl
accepted_first ErrorsCommand r cs rs = refl
accepted_first (TickCommand now) r cs rs = refl

-- events are played one after the other
pub play-append : (s : Paths) (xs ys : List EventValue) → play s (xs ++ ys) ≡ play (play s xs) ys
play-append s [] ys = refl
play-append s (x ∷ xs) ys = play-append (play_one s x) xs ys

-- the first command and its reply are played first
pub play_accepted-first : (s : Paths) (c : CommandValue) (r : ReplyValue) (cs : List CommandValue)
    (rs : List ReplyValue) → play s (accepted (c ∷ cs) (r ∷ rs))
    ≡ play (play s (accepted_by c r)) (accepted cs rs)
play_accepted-first s c r cs rs = ap (play s) (accepted_first c r cs rs)
    ∙ play-append s (accepted_by c r) (accepted cs rs)

events_of-append : (xs ys : List Timed) → events_of (xs ++ ys) ≡ events_of xs ++ events_of ys
events_of-append [] ys = refl
events_of-append (x ∷ xs) ys = ap (λ l. x.event ∷ l) (events_of-append xs ys)

-- a batch is played before those behind it
pub play_batch-first : (s : Paths) (xs ys : List Timed) → play s (events_of (xs ++ ys))
    ≡ play (play s (events_of xs)) (events_of ys)
play_batch-first s xs ys = ap (play s) (events_of-append xs ys) ∙ play-append s (events_of xs) (events_of ys)

-- the item of a turn stands in front of what is left behind it
pub drop_item : {A : Type 0} (xs : List A) (i : ℕ) (x : A) → i < length xs → x ≡ get_or xs i x →
    drop i xs ≡ x ∷ drop (i + 1) xs
drop_item xs i x h e = rw add-one (drop-cons xs i x h ∙ ap (λ y. y ∷ drop (suc i) xs) (sym e))

-- honest events one after the other
pub are_honest-append : (s : Paths) (xs ys : List EventValue) → are_honest s (xs ++ ys)
    ≡ (are_honest s xs && are_honest (play s xs) ys)
are_honest-append s [] ys = refl
are_honest-append s (x ∷ xs) ys = by (is_honest_event s x) (are_honest-append (play_one s x) xs ys)
  where
    by : (b : Bool) → are_honest (play_one s x) (xs ++ ys)
        ≡ (are_honest (play_one s x) xs && are_honest (play (play_one s x) xs) ys) →
        (b && are_honest (play_one s x) (xs ++ ys))
        ≡ ((b && are_honest (play_one s x) xs) && are_honest (play (play_one s x) xs) ys)
    by true h = h
    by false h = refl

-- a command and its reply are honest before those behind them
pub are_honest-first : (s : Paths) (c : CommandValue) (r : ReplyValue) (cs : List CommandValue)
    (rs : List ReplyValue) → are_honest s (accepted (c ∷ cs) (r ∷ rs))
    ≡ (are_honest s (accepted_by c r) && are_honest (play s (accepted_by c r)) (accepted cs rs))
are_honest-first s c r cs rs = ap (are_honest s) (accepted_first c r cs rs)
    ∙ are_honest-append s (accepted_by c r) (accepted cs rs)
