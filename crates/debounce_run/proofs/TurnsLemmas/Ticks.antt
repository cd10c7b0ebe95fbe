-- The moments of ticks are among those that a clock has answered.
use Rattle.std.proofs.Common.{◌≡◌, ◌⊎◌, inl, inr, ℕ, List, [], ◌∷◌, ◌++◌, Result, Ok, Err, refl, sym, ap, ◌∙◌, subst, ⊎_elim, append_assoc, append-nil}
use Rattle.std.specs.declared.vec.Vec.{Vec}
use Rattle.notify_paths.specs.Errors.{ErrorValue}
use Rattle.notify_types.specs.Event.{Timed}
use Rattle.notify_watch.specs.Handler.{Outcome}
use Rattle.debounce_model.specs.Command.{ErrorsCommand, ErrorsReply}
use Rattle.debounce_lock.specs.History.{picked}
use Rattle.debounce_run.specs.Access.Adds.{BatchMakes, Reads, TickMakes, TicksOn}
use Rattle.debounce_run.specs.Access.Happened.{History, accepted, is_emitting}
use Rattle.debounce_run.specs.Access.Stands.{Known}
use Rattle.debounce_run.specs.Turns.Clock.{AreAmong}
use Rattle.debounce_run.specs.Turns.Handed.{HandsOn, TicksNow, tick_in, ticks_by, ticks_of}
use Rattle.debounce_run.specs.Turns.Turn.{Turns}
use Rattle.debounce_run.proofs.TurnsLemmas.Hands.{turn_hands}

-- none is among all
none_among : (answers : List ℕ) → AreAmong [] answers
none_among [] = refl
none_among (a ∷ answers) = inl (none_among answers)

pub first_among : (known : Known) → picked is_emitting known.seen ≡ [] → AreAmong (ticks_by known) known.moments
first_among known none =
    subst (λ hs. AreAmong (ticks_of hs) known.moments) (sym none) (none_among known.moments)

-- .. also with one answer more
among_more : (answers moments : List ℕ) (now : ℕ) → AreAmong moments answers → AreAmong moments (answers ++ now ∷ [])
among_more [] moments now h = inl h
among_more (a ∷ answers) moments now (inl h) = inl (among_more answers moments now h)
among_more (a ∷ answers) moments now (inr (rest, is, h)) = inr (rest, is, among_more answers rest now h)

-- .. which is one of them
among_next : (answers moments : List ℕ) (now : ℕ) → AreAmong moments answers
    → AreAmong (moments ++ now ∷ []) (answers ++ now ∷ [])
among_next [] moments now h = inr ([], ap (λ l. l ++ now ∷ []) h, refl)
among_next (a ∷ answers) moments now (inl h) = inl (among_next answers moments now h)
among_next (a ∷ answers) moments now (inr (rest, is, h)) =
    inr (rest ++ now ∷ [], ap (λ l. l ++ now ∷ []) is, among_next answers rest now h)

-- so it is after a turn
pub ticks_among : (old new : Known) → AreAmong (ticks_by old) old.moments → TicksNow old new
    → AreAmong (ticks_by new) new.moments
ticks_among old new h (inl (now, reads, is)) = subst (λ (x : List ℕ × List ℕ). AreAmong x.0 x.1)
    (λ i. (sym is i, sym reads i)) (among_next old.moments (ticks_by old) now h)
ticks_among old new h (inr (inl same, is)) = subst (λ (x : List ℕ × List ℕ). AreAmong x.0 x.1)
    (λ i. (sym is i, sym same i)) h
ticks_among old new h (inr (inr (now, reads), is)) = subst (λ (x : List ℕ × List ℕ). AreAmong x.0 x.1)
    (λ i. (sym is i, sym reads i)) (among_more old.moments (ticks_by old) now h)

ticks_append : (xs ys : History) → ticks_of (xs ++ ys) ≡ ticks_of xs ++ ticks_of ys
ticks_append [] ys = refl
ticks_append (x ∷ xs) ys = ap (λ l. tick_in x ++ l) (ticks_append xs ys)
    ∙ sym (append_assoc (tick_in x) (ticks_of xs) (ticks_of ys))

module _ {A : Type 0} where
  -- what a tick emits is a tick at its moment, or none
  ticked : (now : ℕ) (res : Result (Vec Timed A) ErrorValue) (errors : List ErrorValue) (hs : History)
      → TickMakes now res errors hs → (ticks_of hs ≡ now ∷ []) ⊎ (ticks_of hs ≡ [])
  ticked now res errors hs (a, b, batch, errs, is) = by res batch
    where
      of_errors : ticks_of b ≡ []
      of_errors = ⊎_elim (λ (h : b ≡ accepted ErrorsCommand (ErrorsReply errors) ∷ []). ap ticks_of h)
          (λ (h : (errors ≡ []) × (b ≡ [])). ap ticks_of h.1) errs

      all : ticks_of hs ≡ ticks_of a
      all = ap ticks_of is ∙ ticks_append a b ∙ ap (λ l. ticks_of a ++ l) of_errors ∙ append-nil (ticks_of a)

      by : (r : Result (Vec Timed A) ErrorValue) → BatchMakes now r a
          → (ticks_of hs ≡ now ∷ []) ⊎ (ticks_of hs ≡ [])
      by (Ok x) h = inl (all ∙ ap ticks_of h)
      by (Err e) h = inr (all ∙ ap ticks_of h)

  ticks_now : (old new : Known) (now : ℕ) (res : Result (Vec Timed A) ErrorValue) (errors : List ErrorValue)
      → Reads old now new → TicksOn (record old { moments = old.moments ++ now ∷ [] }) now res errors new
      → TicksNow old new
  ticks_now old new now res errors reads (lock, adds, (hs, makes, is), same) =
      let all : ticks_by new ≡ ticks_by old ++ ticks_of hs = ap ticks_of is
      ∙ ticks_append (picked is_emitting old.seen) hs in
      ⊎_elim (λ (one : ticks_of hs ≡ now ∷ []). inl (now, reads, all ∙ ap (λ l. ticks_by old ++ l) one))
      (λ (none : ticks_of hs ≡ []). inr (
        inr (now, reads),
        all ∙ ap (λ l. ticks_by old ++ l) none
            ∙ append-nil (ticks_by old),
      )) (ticked now res errors hs makes)

module _ {H A : Type 0} (handles : H → Outcome A → H → Type 0) where
  -- a turn once the clock was read
  pub turn_now_hands : (h h' : H) (old mid new : Known) (now : ℕ) (answer : Result (Unit {0}) ErrorValue)
      → mid ≡ record old { moments = old.moments ++ now ∷ [] }
      → Turns (λ (o : Known) (n : ℕ) (batch : Result (Vec Timed A) ErrorValue) (errors : Vec ErrorValue A) (k : Known).
      TicksOn o n batch errors.items k) handles mid now h new h' answer
      → HandsOn handles old h new h' × TicksNow old new
  turn_now_hands h h' old mid new now answer is turns = by (subst (λ (k : Known). Turns (λ (o : Known) (n : ℕ)
      (batch : Result (Vec Timed A) ErrorValue) (errors : Vec ErrorValue A) (j : Known).
      TicksOn o n batch errors.items j) handles k now h new h' answer) is turns)
    where
      by : Turns (λ (o : Known) (n : ℕ) (batch : Result (Vec Timed A) ErrorValue) (errors : Vec ErrorValue A)
          (k : Known). TicksOn o n batch errors.items k) handles (record old { moments = old.moments ++ now ∷ [] }) now
          h new h' answer → HandsOn handles old h new h' × TicksNow old new
      by (batch, errors, between, ticks, handed, errs, said) = (
        turn_hands handles h h' (record old { moments = old.moments ++ now ∷ [] }) new now answer
            (batch, errors, between, ticks, handed, errs, said),
        ticks_now old new now batch errors.items ticks.3 ticks,
      )
