-- A batch hands out joined renames that are founded, where those that wait are.
use Rattle.std.proofs.Common.{◌≡◌, Bool, true, false, cond, List, [], ◌∷◌, ◌++◌, sym, ◌∙◌, subst, Option, Some, None, is_some, true≢false}
use Rattle.std.specs.List.{AllByRecursion, All, list_any}
use Rattle.std.proofs.lemmas.List.Elements.{All-from_recursion, recursion_from_All}
use Rattle.std.proofs.lemmas.Map.Views.{All-map-IsPermutation}
use Rattle.notify_types.specs.Event.{Timed}
use Rattle.notify_types.specs.KindNumbers.{kind_eq}
use Rattle.notify_paths.specs.Path.{PathValue}
use Rattle.debounce_model.specs.Due.{last_of_kind, expired_beginning, place_list}
use Rattle.debounce_model.specs.Founded.{AcceptedEvent, IsFounded, IsFoundedUnflagged}
use Rattle.debounce_model.specs.Order.{InBatchOrder, placed}
use Rattle.debounce_model.specs.Queues.{Queues}
use Rattle.debounce_model.specs.State.{State}
use Rattle.debounce_model.specs.Tick.{due_of, rest_of, state_places}
use Rattle.debounce_laws.proofs.FoundedQueues.{AreRenamed}
use Rattle.debounce_model.proofs.OrderLemmas.{events-placed}
use Rattle.debounce_laws.proofs.RenamedQueues.{IsRenamedTo}

module _ (P : Timed → Type 0) where
  -- what holds of each event of two lists
  pub each-append : (xs ys : List Timed) → AllByRecursion P xs → AllByRecursion P ys → AllByRecursion P (xs ++ ys)
  each-append [] ys a b = b
  each-append (x ∷ xs) ys a b = (a.0, each-append xs ys a.1 b)

  -- .. of the beginning that is due
  pub each-beginning : (due : Timed → Bool) (xs : List Timed) → AllByRecursion P xs →
      AllByRecursion P (expired_beginning due xs)
  each-beginning due [] a = tt
  each-beginning due (x ∷ xs) a = by (due x) (each-beginning due xs a.1)
    where
      by : (b : Bool) → AllByRecursion P (expired_beginning due xs) →
          AllByRecursion P (cond b (x ∷ expired_beginning due xs) [])
      by true h = (a.0, h)
      by false h = tt

  -- .. of the last of each kind
  pub each-last_of_kind : (xs : List Timed) → AllByRecursion P xs → AllByRecursion P (last_of_kind xs)
  each-last_of_kind [] a = tt
  each-last_of_kind (x ∷ xs) a =
      by (list_any (λ y. kind_eq x.event.kind y.event.kind) xs) (each-last_of_kind xs a.1)
    where
      by : (b : Bool) → AllByRecursion P (last_of_kind xs) →
          AllByRecursion P (cond b (last_of_kind xs) (x ∷ last_of_kind xs))
      by true h = h
      by false h = (a.0, h)

  -- .. of a batch, where it holds of the place list
  each-batch : (xs batch : List Timed) → InBatchOrder xs batch → AllByRecursion P xs → AllByRecursion P batch
  each-batch xs batch o a =
      let there : All P xs = All-from_recursion P xs a in
      recursion_from_All P batch
      (subst (All P) o.events (All-map-IsPermutation (λ k. k.event) P (placed [] xs) o.ranked o.are
      (subst (All P) (sym (events-placed [] xs)) there)))

-- the event of the rescan slot has the Rescan flag
abbrev pub IsFlagged : Option Timed → Type 0
IsFlagged None = Unit {0}
IsFlagged (Some x) = is_some x.event.attrs.flag ≡ true

-- .. so it is no joined rename without it
flagged_due : (history : List AcceptedEvent) (due : Timed → Bool) (slot : Option Timed) → IsFlagged slot →
    AllByRecursion (IsFoundedUnflagged history) (due_of due slot)
flagged_due history due None h = tt
flagged_due history due (Some x) h = by (due x)
  where
    by : (b : Bool) → AllByRecursion (IsFoundedUnflagged history) (cond b (x ∷ []) [])
    by true = ((λ f. absurd (true≢false (sym h ∙ f))), tt)
    by false = tt

-- .. it stays so at a tick
pub flagged_rest : (due : Timed → Bool) (slot : Option Timed) → IsFlagged slot → IsFlagged (rest_of due slot)
flagged_rest due None h = tt
flagged_rest due (Some x) h = by (due x)
  where
    by : (b : Bool) → IsFlagged (cond b None (Some x))
    by true = tt
    by false = h

module _ (history : List AcceptedEvent) where
  -- an event whose two paths are known is founded
  founded_event : (p : PathValue) (x : Timed) → IsRenamedTo history p x → IsFounded history x
  founded_event p x k h = let told = k h in rw told.1 told.2

  -- .. each of a queue
  pub founded_events : (p : PathValue) (xs : List Timed) → AllByRecursion (IsRenamedTo history p) xs →
      AllByRecursion (IsFounded history) xs
  founded_events p [] a = tt
  founded_events p (x ∷ xs) a = (founded_event p x a.0, founded_events p xs a.1)

  -- .. also where the flag is asked for
  founded_unflagged : (xs : List Timed) → AllByRecursion (IsFounded history) xs →
      AllByRecursion (IsFoundedUnflagged history) xs
  founded_unflagged [] a = tt
  founded_unflagged (x ∷ xs) a = ((λ f. a.0), founded_unflagged xs a.1)

  -- what the queues hand out is founded
  founded_places : (due : Timed → Bool) (queues : Queues) → AreRenamed history queues →
      AllByRecursion (IsFounded history) (place_list due queues)
  founded_places due [] a = tt
  founded_places due (e ∷ queues) a =
      each-append (IsFounded history) (last_of_kind (expired_beginning due e.1)) (place_list due queues)
      (each-last_of_kind (IsFounded history) (expired_beginning due e.1)
      (each-beginning (IsFounded history) due e.1 (founded_events e.0 e.1 a.0.each)))
      (founded_places due queues a.1)

  -- .. so is what a batch does
  pub founded_batch : (due : Timed → Bool) (s : State) (batch : List Timed) →
      InBatchOrder (state_places due s) batch → IsFlagged s.rescan_slot → AreRenamed history s.queues →
      AllByRecursion (IsFoundedUnflagged history) batch
  founded_batch due s batch o f a =
      each-batch (IsFoundedUnflagged history) (state_places due s) batch o
      (each-append (IsFoundedUnflagged history) (due_of due s.rescan_slot) (place_list due s.queues)
      (flagged_due history due s.rescan_slot f)
      (founded_unflagged (place_list due s.queues) (founded_places due s.queues a)))
