-- What C's calls make of a debouncer, and what calls that were made in turn are to its core: a run, of which the laws
-- hold. Assumes nothing: these are definitions.
use Rattle.std.specs.Prelude.{◌≡◌, ℕ, Bool, true, false, not, List, [], ◌∷◌, ◌++◌, drop, Option}
use Rattle.std.specs.List.{list_all}
use Rattle.std.specs.Map.{keys_of}
use Rattle.std.specs.Option.{option_map}
use Rattle.notify_paths.specs.Errors.{ErrorValue}
use Rattle.notify_paths.specs.Path.{PathValue}
use Rattle.notify_types.specs.Event.{EventValue, Timed}
use Rattle.notify_types.specs.declared.event.RecursiveMode.{RecursiveMode}
use Rattle.debounce_model.specs.Command.{CommandValue, EventCommand, ErrorCommand, RootCommand, UnrootCommand, ErrorsCommand, TickCommand, ReplyValue, TakenReply, NotedReply, RootedReply, UnrootedReply, ErrorsReply, BatchReply}
use Rattle.debounce_model.specs.Flood.{FloodsNowhere}
use Rattle.debounce_model.specs.Founded.{IsNoneInvented}
use Rattle.debounce_model.specs.Kept.{has_rename, is_kept}
use Rattle.debounce_model.specs.PathsLaw.{LeavesRawPaths, read_paths}
use Rattle.debounce_model.specs.Play.{Paths, play}
use Rattle.debounce_model.specs.Tick.{IsOutlook}
use Rattle.listing_looks.specs.Looks.{LookerValue}
use Rattle.debounce_model.specs.Run.{Run, Step}
use Rattle.debounce_model.specs.Soon.{is_soon}
use Rattle.debounce_model.specs.State.{Core, with_error, with_state}
use Rattle.debounce_model.specs.Step.{IsRooted, IsTaken, IsUnrooted}
use Rattle.debounce_model.specs.declared.file_id.FileId.{FileId}
use Rattle.debounce_book.specs.Book.{entry_of}
use Rattle.debounce_book.specs.Journal.{EntryValue, Replays}
use Rattle.debounce_c.specs.Numbered.Numbers.{Numbers, said_numbers, with_number, with_numbers, without_numbers}
use Rattle.debounce_c.specs.Desk.Looks.{EndsKnown, Ends, IsFedNext, LeavesLook, LookCall, exists_told}
use Rattle.debounce_c.specs.Desk.{DeskValue, IsAsked, IsOpened, IsTicked, begun, stepped}

-- a call that did what it says: it fed an event, kept an error, watched or unwatched a path, asked for the errors,
-- made a tick; it said a file number, or took out those at a path; it began a journal, or ended it; it was one of a
-- look, or fed the look's next event; or it read what there was, as all others do
pub data CallValue : Type 0 where
  Feeds : (event : EventValue) → (now : ℕ) → (exists : Bool) → CallValue
  Notes : (error : ErrorValue) → CallValue
  Watches : (path : PathValue) → (mode : RecursiveMode) → CallValue
  Unwatches : (path : PathValue) → CallValue
  Asks : CallValue
  Ticks : (now : ℕ) → CallValue
  Says : (path : PathValue) → (id : FileId) → CallValue
  Forgets : (path : PathValue) → CallValue
  Keeps : (on : Bool) → CallValue
  Looks : (call : LookCall) → CallValue
  FeedsNext : (event : EventValue) → (now : ℕ) → CallValue
  Reads : CallValue

-- what a call makes of a debouncer
abbrev pub Makes : CallValue → DeskValue → DeskValue → Type 0
Makes (Feeds event now exists) s t =
    IsTaken said_numbers s.core event now exists t.core
    × (t ≡ stepped s t.core (EventCommand event now exists) (TakenReply t.core.answer))
Makes (Notes error) s t =
    t ≡ stepped s (with_state s.core (with_error s.core.state error)) (ErrorCommand error) NotedReply
Makes (Watches path mode) s t =
    IsRooted said_numbers s.core path mode t.core × (t ≡ stepped s t.core (RootCommand path mode) RootedReply)
Makes (Unwatches path) s t =
    IsUnrooted said_numbers s.core path t.core × (t ≡ stepped s t.core (UnrootCommand path) UnrootedReply)
Makes Asks s t = (many : ℕ) × IsAsked s many t
Makes (Ticks now) s t = (many : ℕ) × IsTicked s now many t
Makes (Says path id) s t =
    t ≡ record s { core = with_numbers s.core (with_number s.core.cache path id) }
Makes (Forgets path) s t =
    t ≡ record s { core = with_numbers s.core (without_numbers s.core.cache path) }
Makes (Keeps on) s t = t ≡ record s { journal = begun on }
Makes (Looks call) s t = LeavesLook call s t
Makes (FeedsNext event now) s t = IsFedNext s event now t
Makes Reads s t = (t.core ≡ s.core) × (t.journal ≡ s.journal) × (t.looker ≡ s.looker)

-- the core's command that a call is, if it is one
abbrev pub command_of : CallValue → List CommandValue
command_of (Feeds event now exists) = EventCommand event now exists ∷ []
command_of (Notes error) = ErrorCommand error ∷ []
command_of (Watches path mode) = RootCommand path mode ∷ []
command_of (Unwatches path) = UnrootCommand path ∷ []
command_of Asks = ErrorsCommand ∷ []
command_of (Ticks now) = TickCommand now ∷ []
command_of (Says path id) = []
command_of (Forgets path) = []
command_of (Keeps on) = []
command_of (Looks call) = []
command_of (FeedsNext event now) = EventCommand event now (exists_told event) ∷ []
command_of Reads = []

-- the core's reply to it, by what the call left: of a tick the batch that C reads then, of a call for the errors those
abbrev pub reply_to : CallValue → DeskValue → List ReplyValue
reply_to (Feeds event now exists) t = TakenReply t.core.answer ∷ []
reply_to (Notes error) t = NotedReply ∷ []
reply_to (Watches path mode) t = RootedReply ∷ []
reply_to (Unwatches path) t = UnrootedReply ∷ []
reply_to Asks t = ErrorsReply t.errors ∷ []
reply_to (Ticks now) t = BatchReply t.batch ∷ []
reply_to (Says path id) t = []
reply_to (Forgets path) t = []
reply_to (Keeps on) t = []
reply_to (Looks call) t = []
reply_to (FeedsNext event now) t = TakenReply t.core.answer ∷ []
reply_to Reads t = []

-- the core's commands that calls are
abbrev pub commands_of : List CallValue → List CommandValue
commands_of [] = []
commands_of (call ∷ calls) = command_of call ++ commands_of calls

-- the calls were made in turn, with these replies
abbrev pub MakesAll : List CallValue → List ReplyValue → DeskValue → DeskValue → Type 0
MakesAll [] replies s t = (replies ≡ []) × (t ≡ s)
MakesAll (call ∷ calls) replies s t =
    (m : DeskValue) × (rest : List ReplyValue)
    × (replies ≡ reply_to call m ++ rest) × Makes call s m × MakesAll calls rest m t

-- a call that changes the numbers
abbrev pub changes_numbers : CallValue → Bool
changes_numbers (Says path id) = true
changes_numbers (Forgets path) = true
changes_numbers call = false

-- a call that begins a journal, or ends it
abbrev pub changes_journal : CallValue → Bool
changes_journal (Keeps on) = true
changes_journal call = false

-- calls that were made in turn, none of which changed the numbers, are a run of the core
abbrev pub CallsAreARun : Type 0
CallsAreARun = (calls : List CallValue) (replies : List ReplyValue) (s t : DeskValue) →
    list_all (λ call. not (changes_numbers call)) calls ≡ true → MakesAll calls replies s t →
    Run said_numbers s.core (commands_of calls) replies t.core

-- only the numbers may have changed
abbrev pub IsRenumbered : Core Numbers → Core Numbers → Type 0
IsRenumbered s t = t ≡ with_numbers s t.cache

-- a run between whose steps, and at whose end, the numbers may change
abbrev pub RunsBetween : Core Numbers → List CommandValue → List ReplyValue → Core Numbers → Type 0
RunsBetween s [] [] t = IsRenumbered s t
RunsBetween s [] (reply ∷ replies) t = ⊥
RunsBetween s (command ∷ commands) [] t = ⊥
RunsBetween s (command ∷ commands) (reply ∷ replies) t =
    (k m : Core Numbers)
    × IsRenumbered s k × Step said_numbers k command reply m × RunsBetween m commands replies t

-- calls that were made in turn are such a run
abbrev pub CallsAreARunBetween : Type 0
CallsAreARunBetween = (calls : List CallValue) (replies : List ReplyValue) (s t : DeskValue) →
    MakesAll calls replies s t → RunsBetween s.core (commands_of calls) replies t.core

-- of all calls of a debouncer, from the one that made it
abbrev pub OfCalls : (List CommandValue → List ReplyValue → DeskValue → DeskValue → Type 0) → Type 0
OfCalls Holds = (timeout : ℕ) (calls : List CallValue) (replies : List ReplyValue) (s t : DeskValue) →
    IsOpened timeout 0 0 s → MakesAll calls replies s t → Holds (commands_of calls) replies s t

-- a reader who plays what C read, and then the outlook, has the raw paths
abbrev pub CallsGiveRawPaths : Type 0
CallsGiveRawPaths = OfCalls (λ commands replies s t. LeavesRawPaths commands replies t.core.state)

-- without renames no change is lost
abbrev pub CallsLoseNoChange : Type 0
CallsLoseNoChange = OfCalls (λ commands replies s t.
    has_rename commands replies ≡ false → is_kept commands replies t.core.state ≡ true)

-- no joined rename is invented
abbrev pub CallsInventNoRename : Type 0
CallsInventNoRename = OfCalls (λ commands replies s t. IsNoneInvented commands replies t.core.state)

-- no batch is a flood
abbrev pub CallsFloodNowhere : Type 0
CallsFloodNowhere = OfCalls (λ commands replies s t. FloodsNowhere commands replies t.core.state)

-- without renames nothing waits too long
abbrev pub CallsEmitSoon : Type 0
CallsEmitSoon = OfCalls (λ commands replies s t.
    has_rename commands replies ≡ false → is_soon s.core.state.timeout s.core.state.latest commands replies ≡ true)

-- a call that feeds an event by hand
abbrev pub feeds_by_hand : CallValue → Bool
feeds_by_hand (Feeds event now exists) = true
feeds_by_hand call = false

-- the paths that a reader begins with: those that were known from the start, if the first look ended so, and else none
abbrev pub first_paths : List CallValue → Paths
first_paths [] = []
first_paths (Looks (EndsKnown known) ∷ calls) = keys_of known
first_paths (Looks Ends ∷ calls) = []
first_paths (call ∷ calls) = first_paths calls

-- the events of the last look that weren't fed yet
abbrev pub unfed : LookerValue → List EventValue
unfed l = drop l.handed l.told

-- a reader who plays what C read, then the outlook, and then what wasn't fed yet, has just the known paths
abbrev pub TellsKnown : List CallValue → List ReplyValue → DeskValue → Type 0
TellsKnown calls replies t = (outlook : List Timed) → IsOutlook t.core.state outlook →
    play (read_paths (first_paths calls) replies outlook) (unfed t.looker) ≡ keys_of t.looker.known

-- a reader has just the known paths, whatever is called after an opening, if all events were fed by looks
abbrev pub CallsTellKnown : Type 0
CallsTellKnown = (timeout : ℕ) (calls : List CallValue) (replies : List ReplyValue) (s t : DeskValue) →
    IsOpened timeout 0 0 s → list_all (λ call. not (feeds_by_hand call)) calls ≡ true → MakesAll calls replies s t →
    TellsKnown calls replies t

-- the entries of these commands, with these replies
abbrev pub entries_of : List CommandValue → List ReplyValue → List EntryValue
entries_of (command ∷ commands) (reply ∷ replies) = entry_of 0 command reply ∷ entries_of commands replies
entries_of commands replies = []

-- the journal with these entries at its end, if it is kept
abbrev pub with_entries : Option (List EntryValue) → List EntryValue → Option (List EntryValue)
with_entries journal more = option_map (λ es. es ++ more) journal

-- from s to t the journal, if one is kept, got the entries of these commands, in order, and of no others; and these
-- lead from the state of s to that of t
pub record IsWrittenDown (commands : List CommandValue) (replies : List ReplyValue) (s t : DeskValue) : Type 0 where
  pub journal : t.journal ≡ with_entries s.journal (entries_of commands replies)
  pub leads : Replays s.core.state (entries_of commands replies) t.core.state

-- calls that were made in turn, none of which began a journal or ended it, are written down in it
abbrev pub CallsAreWrittenDown : Type 0
CallsAreWrittenDown = (calls : List CallValue) (replies : List ReplyValue) (s t : DeskValue) →
    list_all (λ call. not (changes_journal call)) calls ≡ true → MakesAll calls replies s t →
    IsWrittenDown (commands_of calls) replies s t
