-- What a joined rename brings to its target is founded, and so is what goes along below it.
use Rattle.std.proofs.Common.{◌≡◌, ℕ, Bool, true, false, cond, List, [], ◌∷◌, ◌++◌, refl, ap, subst, Option, Some, None, map}
use Rattle.std.specs.List.{AllByRecursion}
use Rattle.notify_types.specs.Event.{Timed, AttributesValue, no_attributes}
use Rattle.notify_paths.specs.Path.{PathValue, is_below}
use Rattle.notify_paths.specs.PathMoves.{relocated}
use Rattle.debounce_model.specs.Founded.{AcceptedEvent, Matched, Founded, Told, TakenOn, TakenAlong}
use Rattle.debounce_model.specs.Moved.{are_apart, moved_path, moved_event, moved_queue}
use Rattle.debounce_model.specs.Queues.{was_created, was_removed}
use Rattle.debounce_model.specs.Rename.{is_both, first_both, without_both, original_path, original_time, moving, at_path, rename_event, renaming, override_attributes, override_event, overriding, arrived}
use Rattle.debounce_model.specs.WellFormed.{HasNoBoth}
use Rattle.debounce_model.proofs.MovedLemmas.{goes_along}
use Rattle.debounce_model.proofs.RenameLemmas.{each-without_both, each-moving, no_both-moved}
use Rattle.debounce_laws.proofs.RenamedQueues.{IsRenamedTo, IsRenamedQueue, plain_event, plain_events, one-moved}

module _ (history : List AcceptedEvent) where
  -- the rename that arrives is founded: it goes on from the one that waits at its source, or is told by its halves
  original_founded : (f t : PathValue) (xs : List Timed) → Matched history f t →
      AllByRecursion (IsRenamedTo history f) xs → Founded history (original_path (first_both xs) f) t
  original_founded f t [] m a = Told m
  original_founded f t (x ∷ xs) m a = by (is_both x) refl (original_founded f t xs m a.1)
    where
      by : (b : Bool) → is_both x ≡ b → Founded history (original_path (first_both xs) f) t →
          Founded history (original_path (cond b (Some x) (first_both xs)) f) t
      by true h more = let told = a.0 h in rw told.1 (TakenOn told.2 m)
      by false h more = more

  -- the rename in front of what goes along, which has no joined rename
  renamed-renaming : (o t : PathValue) (attrs : AttributesValue) (time : ℕ) (xs : List Timed) →
      Founded history o t → HasNoBoth xs → IsRenamedQueue history t (renaming o t attrs time xs ++ xs)
  renamed-renaming o t attrs time xs h n = by (was_created xs)
    where
      by : (b : Bool) → IsRenamedQueue history t (cond b [] (rename_event o t attrs time ∷ []) ++ xs)
      by true = record {
        each = plain_events history t xs n;
        one =
            each-without_both (λ y. is_both y ≡ false) xs n;
      }
      by false = record { each = ((λ e. (o, refl, h)), plain_events history t xs n); one = n }

  -- .. behind the removal of what was there
  renamed-overriding : (t : PathValue) (time : ℕ) (target : Option (List Timed)) (xs : List Timed) →
      IsRenamedQueue history t xs → IsRenamedQueue history t (overriding t time target ++ xs)
  renamed-overriding t time None xs q = q
  renamed-overriding t time (Some target) xs q = by (was_created target)
    where
      lead : Timed
      lead = override_event t (cond (was_removed target) no_attributes override_attributes) time

      by : (b : Bool) → IsRenamedQueue history t (cond b [] (lead ∷ []) ++ xs)
      by true = q
      by false = record { each = (plain_event history t lead refl, q.each); one = (refl, q.one) }

  -- what then waits at the target
  pub renamed-arrived : (f t : PathValue) (time : ℕ) (attrs : AttributesValue) (xs : List Timed)
      (target : Option (List Timed)) → Matched history f t → IsRenamedQueue history f xs →
      IsRenamedQueue history t (arrived xs target f t time attrs)
  renamed-arrived f t time attrs xs target m q =
      let none = no_both-moved t (moving (without_both xs))
      (each-moving (λ x. is_both x ≡ false) (without_both xs) q.one) in
      let began = original_time (first_both xs) time in
      renamed-overriding t began target _ (renamed-renaming (original_path (first_both xs) f) t attrs began
      (map (at_path t) (moving (without_both xs))) (original_founded f t xs m q.each) none)

  module _ (f t : PathValue) (time : ℕ) (m : Matched history f t) (apart : are_apart f t ≡ true) where
    -- a joined rename that goes along is founded
    renamed-moved_event : (p : PathValue) (x : Timed) → is_below p f ≡ true → IsRenamedTo history p x →
        IsRenamedTo history (relocated f t p) (moved_event f t time x)
    renamed-moved_event p x b k h =
        let told = k h in (
          moved_path f t told.0,
          rw (h, told.1) (ap (λ q. moved_path f t told.0 ∷ q ∷ []) (goes_along f t time p b)),
          subst (Founded history (moved_path f t told.0)) (goes_along f t time p b)
              (TakenAlong told.2 m b apart),
        )

    -- .. each of a queue
    renamed-moved_events : (p : PathValue) (xs : List Timed) → is_below p f ≡ true →
        AllByRecursion (IsRenamedTo history p) xs →
        AllByRecursion (IsRenamedTo history (relocated f t p)) (moved_queue f t time xs)
    renamed-moved_events p [] b a = tt
    renamed-moved_events p (x ∷ xs) b a = (renamed-moved_event p x b a.0, renamed-moved_events p xs b a.1)

    -- a queue that goes along
    pub renamed-moved : (p : PathValue) (xs : List Timed) → is_below p f ≡ true → IsRenamedQueue history p xs →
        IsRenamedQueue history (relocated f t p) (moved_queue f t time xs)
    renamed-moved p xs b q = record {
      each = renamed-moved_events p xs b q.each;
      one =
          one-moved f t time xs q.one;
    }
