-- Each event of a batch is as old as the timeout.
use Rattle.std.proofs.Common.{◌≡◌, ℕ, ◌≤◌, ◌-◌, Bool, true, false, cond, List, [], ◌∷◌, refl, sym, ap, subst, Option, Some, None}
use Rattle.std.specs.List.{All, AllByRecursion}
use Rattle.std.proofs.lemmas.Bool.{leb-true}
use Rattle.std.proofs.lemmas.List.Elements.{All-from_recursion, recursion_from_All}
use Rattle.std.proofs.lemmas.Map.Views.{All-map-IsPermutation}
use Rattle.notify_types.specs.Event.{Timed}
use Rattle.debounce_model.specs.Command.{CommandValue, EventCommand, ErrorCommand, RootCommand, UnrootCommand, ErrorsCommand, TickCommand, ReplyValue, TakenReply, NotedReply, RootedReply, UnrootedReply, ErrorsReply, BatchReply}
use Rattle.debounce_model.specs.Due.{last_of_kind, expired_beginning, place_list}
use Rattle.debounce_model.specs.Order.{InBatchOrder, placed}
use Rattle.debounce_model.specs.Queues.{Queues}
use Rattle.debounce_model.specs.State.{State, empty_state, raised}
use Rattle.debounce_model.specs.Tick.{IsBatch, due_of, is_expired_in, state_places}
use Rattle.debounce_model.proofs.OrderLemmas.{events-placed}
use Rattle.debounce_laws.proofs.DueLists.{each_weaken}
use Rattle.debounce_laws.proofs.FoundedBatches.{each-append, each-last_of_kind}
use Rattle.debounce_book.specs.Journal.{Accepts, EntryValue, IsLegal, Replays}
use Rattle.debounce_book.proofs.Replay.{timeout-accepts}
use Rattle.debounce_run.specs.Access.Aged.{AreAged, IsAged, later}

module _ (due : Timed → Bool) where
  -- the event is due
  abbrev IsDue : Timed → Type 0
  IsDue x = due x ≡ true

  -- so is each of the beginning of a queue that is due
  each_early : (xs : List Timed) → AllByRecursion IsDue (expired_beginning due xs)
  each_early [] = tt
  each_early (x ∷ xs) = by (due x) refl (each_early xs)
    where
      by : (b : Bool) → due x ≡ b → AllByRecursion IsDue (expired_beginning due xs)
          → AllByRecursion IsDue (cond b (x ∷ expired_beginning due xs) [])
      by true is more = (is, more)
      by false is more = tt

  -- .. of a place list
  each_placed : (queues : Queues) → AllByRecursion IsDue (place_list due queues)
  each_placed [] = tt
  each_placed (e ∷ queues) =
      each-append IsDue (last_of_kind (expired_beginning due e.1)) (place_list due queues)
      (each-last_of_kind IsDue (expired_beginning due e.1) (each_early e.1)) (each_placed queues)

  -- .. and the event of a slot, if it is due
  each_held : (slot : Option Timed) → AllByRecursion IsDue (due_of due slot)
  each_held None = tt
  each_held (Some x) = by (due x) refl
    where
      by : (b : Bool) → due x ≡ b → AllByRecursion IsDue (cond b (x ∷ []) [])
      by true is = (is, tt)
      by false is = tt

  -- .. of a batch, where it is of the place list
  each_batch : (xs batch : List Timed) → InBatchOrder xs batch → AllByRecursion IsDue xs → AllByRecursion IsDue batch
  each_batch xs batch o each =
      let there : All IsDue xs = All-from_recursion IsDue xs each in
      recursion_from_All IsDue batch
      (subst (All IsDue) o.events (All-map-IsPermutation (λ k. k.event) IsDue (placed [] xs) o.ranked o.are
      (subst (All IsDue) (sym (events-placed [] xs)) there)))

-- each event of a batch is as old as the timeout at the tick's moment
batch_is_aged : (s : State) (now : ℕ) (batch : List Timed) → IsBatch s now batch
    → AllByRecursion (λ x. s.timeout ≤ raised s now - x.time) batch
batch_is_aged s now batch is =
    let due = is_expired_in s now in
    each_weaken (IsDue due) (λ x. s.timeout ≤ raised s now - x.time)
    (λ x yes. leb-true s.timeout (raised s now - x.time) yes) batch
    (each_batch due (state_places due s) batch is
    (each-append (IsDue due) (due_of due s.rescan_slot) _ (each_held due s.rescan_slot) (each_placed due s.queues)))

-- the greatest moment so far is the state's
latest_accepts : (s t : State) (c : CommandValue) (y : ReplyValue) → Accepts s c y t → t.latest ≡ later s.latest c
latest_accepts s t (EventCommand event now exists) (TakenReply answer) h = ap (λ (k : State). k.latest) h.1
latest_accepts s t (ErrorCommand error) NotedReply h = ap (λ (k : State). k.latest) h
latest_accepts s t (RootCommand path mode) RootedReply h = ap (λ (k : State). k.latest) h
latest_accepts s t (UnrootCommand path) UnrootedReply h = ap (λ (k : State). k.latest) h
latest_accepts s t ErrorsCommand (ErrorsReply errors) h = ap (λ (k : State). k.latest) h.1
latest_accepts s t (TickCommand now) (BatchReply batch) h = ap (λ (k : State). k.latest) h.1
latest_accepts s t c y h = absurd h

-- what an accepted tick emits is as old as the timeout
aged_accepts : (s t : State) (c : CommandValue) (y : ReplyValue) → Accepts s c y t
    → IsAged s.timeout (later s.latest c) y
aged_accepts s t (EventCommand event now exists) (TakenReply answer) h = tt
aged_accepts s t (ErrorCommand error) NotedReply h = tt
aged_accepts s t (RootCommand path mode) RootedReply h = tt
aged_accepts s t (UnrootCommand path) UnrootedReply h = tt
aged_accepts s t ErrorsCommand (ErrorsReply errors) h = tt
aged_accepts s t (TickCommand now) (BatchReply batch) h = batch_is_aged s now batch h.0
aged_accepts s t c y h = absurd h

-- .. and so is all that the ticks of a journal emit
replayed_aged : (es : List EntryValue) (s t : State) → Replays s es t → AreAged s.timeout s.latest es
replayed_aged [] s t h = tt
replayed_aged (e ∷ es) s t (m, first, more) = (
  aged_accepts s m e.command e.reply first,
  subst (λ (x : ℕ × ℕ). AreAged x.0 x.1 es)
      (λ i. (timeout-accepts s m e.command e.reply first i, latest_accepts s m e.command e.reply first i))
      (replayed_aged es m t more),
)

pub journal_is_aged : (es : List EntryValue) (s : State) → IsLegal es s → AreAged s.timeout 0 es
journal_is_aged es s legal = replayed_aged es (empty_state s.timeout) s legal
