-- Which call answers which fault, whatever memory there is. Assumes nothing: these are definitions.
use Rattle.std.specs.Prelude.{ℕ, ◌-◌, ◌^◌, ◌==◌, Bool, not, ◌&&◌, ◌||◌, nat_lt, List, length, is_some, Option, None, Some, if◌then◌else◌}
use Rattle.std.specs.Str.{is_utf8}
use Rattle.notify_paths.specs.Errors.{ErrorValue}
use Rattle.notify_types.specs.Event.{Timed}
use Rattle.debounce_model.specs.Tick.{is_due}
use Rattle.debounce_book.specs.Journal.{EntryValue}
use Rattle.debounce_c.specs.Desk.{DeskValue}
use Rattle.debounce_c.specs.Desk.Tells.{entry_texts, error_texts, texts_of, total}
use Rattle.debounce_c.specs.declared.desk.fault.Fault.{Fault}
use Rattle.debounce_c.specs.declared.desk.fault.Fault.TheVariants.{Full, NotText, NoKind, Unread, AtEnd, TooShort, TooManyPaths, BadCounts}
use Rattle.debounce_c.specs.declared.desk.records.Attributes.{Attributes}
use Rattle.debounce_c.specs.declared.desk.records.Change.{Change}

-- no fault, whatever the debouncer is
abbrev pub no_fault : DeskValue → Option Fault
no_fault s = None

-- a text has to be UTF-8
abbrev pub text_fault : List ℕ → Option Fault
text_fault text = if is_utf8 text then None else Some NotText

-- no more events were emitted than were taken
abbrev pub counts_fault : ℕ → ℕ → Option Fault
counts_fault taken given = if nat_lt taken given then Some BadCounts else None

-- a text that is meant is UTF-8
abbrev pub is_text_if : Bool → List ℕ → Bool
is_text_if meant text = not meant || is_utf8 text

-- all texts of an event that are meant are UTF-8
abbrev pub are_texts : Change → Attributes → List ℕ → List ℕ → List ℕ → List ℕ → Bool
are_texts c a first second info source =
    is_text_if (nat_lt 0 c.paths) first
    && (is_text_if (nat_lt 1 c.paths) second
    && (is_text_if a.has_info info && is_text_if a.has_source source))

-- an event: its kind has a number, it has at most two paths, its texts are UTF-8, and it can still be counted
abbrev pub event_fault : Change → Attributes → List ℕ → List ℕ → List ℕ → List ℕ → DeskValue → Option Fault
event_fault c a first second info source s =
    if nat_lt 40 c.kind then Some NoKind
    else (if nat_lt 2 c.paths then Some TooManyPaths
    else (if not (are_texts c a first second info source) then Some NotText
    else (if s.core.state.taken == 2 ^ 64 - 1 then Some Full
    else None)))

-- an event has texts, which need memory
abbrev pub has_texts : Change → Attributes → Bool
has_texts c a = nat_lt 0 c.paths || (a.has_info || a.has_source)

-- an event may need memory: for its texts, and for its entry in the journal
abbrev pub event_needs : Change → Attributes → DeskValue → Bool
event_needs c a s = is_some s.journal || has_texts c a

-- a tick may need memory: if something is expired, and for its entry
abbrev pub tick_needs : ℕ → DeskValue → Bool
tick_needs now s = is_some s.journal || is_due s.core.state now

-- a call for the errors may need memory: for its entry
abbrev pub errors_need : DeskValue → Bool
errors_need s = is_some s.journal

-- an error: its kind is one of the first four, and its texts are UTF-8
abbrev pub error_fault : ℕ → Bool → List ℕ → List ℕ → Option Fault
error_fault number has_path text path =
    if nat_lt 3 number then Some NoKind
    else (if not (is_text_if (number == 0) text && is_text_if has_path path) then Some NotText
    else None)

-- a batch begins once the last one was read
abbrev pub batch_fault : DeskValue → Option Fault
batch_fault s = if nat_lt s.read (length s.batch) then Some Unread else None

-- errors are handed out once the last ones were read
abbrev pub errors_fault : DeskValue → Option Fault
errors_fault s = if nat_lt s.errors_read (length s.errors) then Some Unread else None

-- an event is there to be read, and its texts fit
abbrev pub next_fault : ℕ → Option Timed → Option Fault
next_fault room None = Some AtEnd
next_fault room (Some x) = if nat_lt room (total (texts_of x)) then Some TooShort else None

-- an error is there to be read, and its texts fit
abbrev pub next_error_fault : ℕ → Option ErrorValue → Option Fault
next_error_fault room None = Some AtEnd
next_error_fault room (Some e) = if nat_lt room (total (error_texts e)) then Some TooShort else None

-- an entry is there, and its path fits
abbrev pub entry_fault : ℕ → Option EntryValue → Option Fault
entry_fault room None = Some AtEnd
entry_fault room (Some e) = if nat_lt room (total (entry_texts e)) then Some TooShort else None
