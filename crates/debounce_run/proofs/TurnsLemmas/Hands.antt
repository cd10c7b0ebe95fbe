-- What a turn hands over, and what a run of turns does.
use Rattle.std.proofs.Common.{◌≡◌, ℕ, List, [], ◌∷◌, ◌++◌, Result, Ok, Err, sym, refl, subst, ⊎_elim}
use Rattle.std.specs.declared.vec.Vec.{Vec}
use Rattle.notify_paths.specs.Errors.{ErrorValue}
use Rattle.notify_types.specs.Event.{Timed}
use Rattle.notify_watch.specs.Handler.{Outcome}
use Rattle.debounce_run.specs.Turns.Turn.{Turns, HandsList, HandsBatch, HandsErrors}
use Rattle.debounce_model.specs.Command.{ErrorsCommand, ErrorsReply}
use Rattle.debounce_lock.specs.History.{picked}
use Rattle.debounce_run.specs.Access.Adds.{BatchMakes, ErrorsMake, TicksOn}
use Rattle.debounce_run.specs.Turns.Handed.{Handed, HandsOn}
use Rattle.debounce_run.specs.Access.Happened.{History, accepted, is_emitting}
use Rattle.debounce_run.specs.Access.Stands.{Known}

module _ {H A : Type 0} (handles : H → Outcome A → H → Type 0) where
  handed_append : (xs ys : History) (h m e : H) → Handed handles h xs m → Handed handles m ys e
      → Handed handles h (xs ++ ys) e
  handed_append [] ys h m e a b = subst (λ k. Handed handles k ys e) a b
  handed_append (x ∷ xs) ys h m e a b = (a.0, a.1, handed_append xs ys a.0 m e a.2 b)

  hands_batch : (now : ℕ) (res : Result (Vec Timed A) ErrorValue) (hs : History) (h m : H) → BatchMakes now res hs
      → HandsBatch handles res h m → Handed handles h hs m
  hands_batch now (Ok batch) hs h m makes hands = subst (λ l. Handed handles h l m) (sym makes)
      (m, (batch, refl, hands), refl)
  hands_batch now (Err error) hs h m makes hands = subst (λ l. Handed handles h l m) (sym makes) hands

  hands_errors : (errors : Vec ErrorValue A) (hs : History) (h m : H) → ErrorsMake errors.items hs
      → HandsErrors handles errors h m → Handed handles h hs m
  hands_errors errors hs h m makes hands =
      ⊎_elim
      (λ (one : hs ≡ accepted ErrorsCommand (ErrorsReply errors.items) ∷ []). subst (λ l. Handed handles h l m)
      (sym one) (m, (errors, refl, hands), refl))
      (λ (none : (errors.items ≡ []) × (hs ≡ [])).
      subst (λ l. Handed handles h l m) (sym none.1) (subst
      (λ (l : List ErrorValue). HandsList l h (λ k. handles h (Err errors) k) m) none.0 hands)) makes

  -- a turn hands over what its tick emits
  pub turn_hands : (h h' : H) (old new : Known) (now : ℕ) (answer : Result (Unit {0}) ErrorValue)
      → Turns (λ (o : Known) (n : ℕ) (batch : Result (Vec Timed A) ErrorValue) (errors : Vec ErrorValue A) (k : Known).
      TicksOn o n batch errors.items k) handles old now h new h' answer → HandsOn handles old h new h'
  turn_hands h h' old new now answer (batch, errors, between, ticks, handed, errs, is) =
      let hs = ticks.2 in
      let makes = hs.1 in (
        ticks.0,
        (
          hs.0,
          subst (λ l. Handed handles h l h') (sym makes.4) (handed_append makes.0 makes.1 h between h'
              (hands_batch now batch makes.0 h between makes.2 handed) (hands_errors errors makes.1 between h' makes.3
              errs)),
          hs.2,
        ),
      )

  -- nothing was handed over where nothing was emitted
  pub handed_none : (h : H) (known : Known) → picked is_emitting known.seen ≡ []
      → Handed handles h (picked is_emitting known.seen) h
  handed_none h known none = subst (λ l. Handed handles h l h) (sym none) refl

  -- .. after what was handed over before
  pub hands_more : (first h h' : H) (old new : Known) → Handed handles first (picked is_emitting old.seen) h
      → HandsOn handles old h new h' → Handed handles first (picked is_emitting new.seen) h'
  hands_more first h h' old new was (lock, (hs, handed, is)) = subst (λ l. Handed handles first l h') (sym is)
      (handed_append (picked is_emitting old.seen) hs first h h' was handed)
