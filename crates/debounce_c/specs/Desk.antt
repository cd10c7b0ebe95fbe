-- What a handle holds, and what a tick, a call for the errors and one for the outlook make of it.
-- Assumes nothing: these are definitions.
pub mod Answers
pub mod Calls
pub mod Codes
pub mod Faults
pub mod Looks
pub mod Said
pub mod Tells
use Rattle.std.specs.Prelude.{◌≡◌, ℕ, Bool, List, [], length, slice_get, unwrap_or, Option, None, Some, if◌then◌else◌}
use Rattle.notify_paths.specs.Errors.{ErrorValue}
use Rattle.notify_types.specs.Event.{Timed}
use Rattle.debounce_model.specs.Command.{CommandValue, ErrorsCommand, TickCommand, ReplyValue, BatchReply, ErrorsReply}
use Rattle.debounce_model.specs.State.{Core, counted_state, with_state, without_errors}
use Rattle.debounce_model.specs.Tick.{IsBatch, IsOnlyBatch, IsOutlook, IsOnlyOutlook, after_tick}
use Rattle.debounce_book.specs.Book.{entry_of, with_entry}
use Rattle.debounce_book.specs.Journal.{EntryValue}
use Rattle.listing_looks.specs.Looks.{LookerValue, new_looker}
use Rattle.debounce_c.specs.Numbered.Numbers.{Numbers}

-- a debouncer, with the file numbers that C said; the last batch, of which so many events were read; the errors that
-- were last asked for, of which so many were read; the journal, if one is kept; and what is known and said to stand at
-- paths
pub record DeskValue : Type 0 where
  pub core : Core Numbers
  pub batch : List Timed
  pub read : ℕ
  pub errors : List ErrorValue
  pub errors_read : ℕ
  pub journal : Option (List EntryValue)
  pub looker : LookerValue

-- a journal that has just begun, or none
abbrev pub begun : Bool → Option (List EntryValue)
begun on = if on then Some [] else None

-- the entries of the journal: none if none is kept
abbrev pub entries_in : DeskValue → List EntryValue
entries_in s = unwrap_or s.journal []

-- the entry at this place of the journal
abbrev pub entry_at : DeskValue → ℕ → Option EntryValue
entry_at s i = slice_get (entries_in s) i

-- the core made the step of this command, with this reply: if a journal is kept, it has one entry more
abbrev pub stepped : DeskValue → Core Numbers → CommandValue → ReplyValue → DeskValue
stepped s core command reply = record s { core = core; journal = with_entry s.journal (entry_of 0 command reply) }

-- a debouncer that waits for nothing, with nothing to be read
pub record IsOpened (timeout taken given : ℕ) (t : DeskValue) : Type 0 where
  pub state : t.core.state ≡ counted_state timeout taken given
  pub numbers : t.core.cache ≡ []
  pub answer : t.core.answer ≡ None
  pub visited : t.core.visited ≡ 0
  pub batch : t.batch ≡ []
  pub read : t.read ≡ 0
  pub errors : t.errors ≡ []
  pub errors_read : t.errors_read ≡ 0
  pub journal : t.journal ≡ None
  pub looker : t.looker ≡ new_looker

-- a tick: the batch that the core's tick emits is to be read
pub record IsTicked (s : DeskValue) (now many : ℕ) (t : DeskValue) : Type 0 where
  pub batch : IsBatch s.core.state now t.batch
  pub only : IsOnlyBatch s.core.state now t.batch
  pub count : many ≡ length t.batch
  pub rest : t ≡ record (stepped s (after_tick s.core now t.batch) (TickCommand now) (BatchReply t.batch)) {
    batch = t.batch;
    read = 0;
  }

-- the outlook is to be read, and nothing else has changed
pub record IsForeseen (s : DeskValue) (many : ℕ) (t : DeskValue) : Type 0 where
  pub batch : IsOutlook s.core.state t.batch
  pub only : IsOnlyOutlook s.core.state t.batch
  pub count : many ≡ length t.batch
  pub rest : t ≡ record s { batch = t.batch; read = 0 }

-- the errors that were kept are to be read, and are kept no longer
pub record IsAsked (s : DeskValue) (many : ℕ) (t : DeskValue) : Type 0 where
  pub count : many ≡ length s.core.state.errors
  pub rest : t ≡ record (stepped s (with_state s.core (without_errors s.core.state)) ErrorsCommand
      (ErrorsReply s.core.state.errors)) {
        errors = s.core.state.errors;
        errors_read = 0;
      }
