-- The state of a debouncer, and the debouncer with its cache.
use Rattle.std.specs.Prelude.{ℕ, max, ◌+◌, List, [], ◌∷◌, ◌++◌, Option, Some, None}
use Rattle.notify_paths.specs.Errors.{ErrorValue}
use Rattle.notify_types.specs.Event.{Timed}
use Rattle.debounce_model.specs.declared.file_id.FileId.{FileId}
use Rattle.debounce_model.specs.Cache.{Roots}
use Rattle.debounce_model.specs.Queues.{waiting_in, Queues}
use Rattle.debounce_model.specs.RenameSlot.{SlotValue}

-- the queues; the roots; the rename slot; the rescan slot, for the last event that said that others were lost;
-- the errors that nobody has asked for yet; the timeout; the greatest moment at which an event or a tick was
-- accepted; how many events were taken, and how many were given out
pub record State : Type 0 where
  pub queues : Queues
  pub roots : Roots
  pub rename_slot : Option SlotValue
  pub rescan_slot : Option Timed
  pub errors : List ErrorValue
  pub timeout : ℕ
  pub latest : ℕ
  pub taken : ℕ
  pub given : ℕ

-- the state that waits for nothing and has taken and given out so many
abbrev pub counted_state : ℕ → ℕ → ℕ → State
counted_state timeout taken given = record {
  queues = [];
  roots = [];
  rename_slot = None;
  rescan_slot = None;
  errors = [];
  timeout = timeout;
  latest = 0;
  taken = taken;
  given = given;
}

-- the state at the beginning: nothing was taken or given out
abbrev pub empty_state : ℕ → State
empty_state timeout = counted_state timeout 0 0

-- how many events a slot holds
abbrev pub held : Option Timed → ℕ
held None = 0
held (Some x) = 1

-- how many events wait
abbrev pub waiting : State → ℕ
waiting s = waiting_in s.queues + held s.rescan_slot

-- the moment at which an event or a tick is taken that comes at this one: no earlier than any before
abbrev pub raised : State → ℕ → ℕ
raised s now = max s.latest now

-- a state that keeps one more error
abbrev pub with_error : State → ErrorValue → State
with_error s error = record s { errors = s.errors ++ error ∷ [] }

-- a state whose errors were asked for
abbrev pub without_errors : State → State
without_errors s = record s { errors = [] }

-- a debouncer: its state, its cache, the cache's answer of the last event that was taken, and how many queues the last
-- tick that was accepted opened
pub record Core (C : Type 0) : Type 0 where
  pub state : State
  pub cache : C
  pub answer : Option FileId
  pub visited : ℕ

-- a debouncer in this state
abbrev pub with_state : {C : Type 0} → Core C → State → Core C
with_state core s = record core { state = s }
