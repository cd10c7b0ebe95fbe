-- No rename is invented: each joined rename goes back to pairs of halves among the accepted events. What is founded is
-- said without queues and without how halves are joined.
use Rattle.std.specs.Prelude.{◌≡◌, ◌==◌, Bool, true, false, ◌||◌, List, [], ◌∷◌, ◌++◌, Option, is_some, filter}
use Rattle.std.specs.List.{AllByRecursion}
use Rattle.notify_types.specs.Event.{EventValue, Timed}
use Rattle.notify_paths.specs.Path.{PathValue, is_below}
use Rattle.debounce_model.specs.declared.case.Case.TheVariants.{RenameFrom, RenameTo}
use Rattle.debounce_model.specs.declared.file_id.FileId.{FileId}
use Rattle.debounce_model.specs.Command.{CommandValue, EventCommand, ReplyValue, TakenReply, BatchReply}
use Rattle.debounce_model.specs.Equality.{file_id_eq}
use Rattle.debounce_model.specs.Kept.{tells_rename}
use Rattle.debounce_model.specs.Moved.{are_apart, moved_path}
use Rattle.debounce_model.specs.Rename.{is_both}
use Rattle.debounce_model.specs.RenameSlot.{are_equal}
use Rattle.debounce_model.specs.State.{State}
use Rattle.debounce_model.specs.Table.{case_of}
use Rattle.debounce_model.specs.WellFormed.{IsFirst}

-- an accepted event, whose first path existed or not, with the cache's answer
pub record AcceptedEvent : Type 0 where
  pub event : EventValue
  pub exists : Bool
  pub answer : Option FileId

-- the accepted events, as they came
abbrev pub accepted_events : List CommandValue → List ReplyValue → List AcceptedEvent
accepted_events (EventCommand event now exists ∷ commands) (TakenReply answer ∷ replies) =
    record { event = event; exists = exists; answer = answer } ∷ accepted_events commands replies
accepted_events (command ∷ commands) (reply ∷ replies) = accepted_events commands replies
accepted_events commands replies = []

-- those of them that are renames
abbrev pub renames : List AcceptedEvent → List AcceptedEvent
renames history = filter (λ a. tells_rename a.event) history

-- a rename that was taken as a first half, with this first path
pub record IsFirstHalf (a : AcceptedEvent) (f : PathValue) : Type 0 where
  pub case : case_of a.event a.exists ≡ RenameFrom
  pub path : IsFirst f a.event.paths

-- a rename that was taken as a second half, with this first path
pub record IsSecondHalf (a : AcceptedEvent) (t : PathValue) : Type 0 where
  pub case : case_of a.event a.exists ≡ RenameTo
  pub path : IsFirst t a.event.paths

-- both trackers, or both answers, are there and equal
abbrev pub are_linked : AcceptedEvent → AcceptedEvent → Bool
are_linked a b = are_equal (λ x y. x == y) a.event.attrs.tracker b.event.attrs.tracker
    || are_equal file_id_eq a.answer b.answer

-- among the accepted events a first half from f is followed by a second half to t that is linked to it, with no
-- rename between them
pub record Matched (history : List AcceptedEvent) (f t : PathValue) : Type 0 where
  pub earlier : List AcceptedEvent
  pub first : AcceptedEvent
  pub second : AcceptedEvent
  pub later : List AcceptedEvent
  pub neighbours : renames history ≡ earlier ++ first ∷ second ∷ later
  pub from : IsFirstHalf first f
  pub to : IsSecondHalf second t
  pub linked : are_linked first second ≡ true

-- the rename from one path to another goes back to pairs of halves
pub data Founded (history : List AcceptedEvent) : PathValue → PathValue → Type 0 where
  -- a pair of halves told it
  Told : {o t : PathValue} → Matched history o t → Founded history o t
  -- it was founded as far as f, and a pair of halves took it on to t
  TakenOn : {o f t : PathValue} → Founded history o f → Matched history f t → Founded history o t
  -- it was founded and ended strictly below f, and a pair of halves took what is strictly below f along to t, so both
  -- its paths are now as after that; neither of f and t lies at or below the other
  TakenAlong : {o s f t : PathValue} → Founded history o s → Matched history f t → is_below s f ≡ true →
      are_apart f t ≡ true → Founded history (moved_path f t o) (moved_path f t s)

-- there are exactly two paths, and the rename from the first to the second is founded
abbrev pub AreFounded : List AcceptedEvent → List PathValue → Type 0
AreFounded history (o ∷ t ∷ []) = Founded history o t
AreFounded history paths = ⊥

-- an event, if it is a joined rename, is founded
abbrev pub IsFounded : List AcceptedEvent → Timed → Type 0
IsFounded history x = is_both x ≡ true → AreFounded history x.event.paths

-- an event without the Rescan flag, if it is a joined rename, is founded
abbrev pub IsFoundedUnflagged : List AcceptedEvent → Timed → Type 0
IsFoundedUnflagged history x = is_some x.event.attrs.flag ≡ false → IsFounded history x

-- each event of the batch that a reply emits is founded
abbrev pub IsReplyFounded : List AcceptedEvent → ReplyValue → Type 0
IsReplyFounded history (BatchReply batch) = AllByRecursion (IsFoundedUnflagged history) batch
IsReplyFounded history reply = Unit {0}

-- no joined rename is invented: each one without the Rescan flag that a batch emitted, and each one that waits in
-- the final state, is founded on the accepted events
pub record IsNoneInvented (commands : List CommandValue) (replies : List ReplyValue) (s : State) : Type 0 where
  pub handed : AllByRecursion (IsReplyFounded (accepted_events commands replies)) replies
  pub waiting : AllByRecursion (λ e. AllByRecursion (IsFounded (accepted_events commands replies)) e.1) s.queues
