-- The step table: the case of an event, and for each case a row that says what the event makes of the state.
use Rattle.std.specs.Prelude.{◌≡◌, ◌<◌, ◌+◌, ℕ, Bool, false, length, List, [], ◌∷◌, Option, Some, None, is_some, if◌then◌else◌}
use Rattle.notify_types.specs.Event.{EventValue, Timed, first_of}
use Rattle.notify_paths.specs.Path.{PathValue}
use Rattle.notify_types.specs.declared.kind.EventKind.{EventKind}
use Rattle.notify_types.specs.declared.kind.EventKind.TheVariants as kind
use Rattle.notify_types.specs.declared.kind.ModifyKind.TheVariants as modify
use Rattle.notify_types.specs.declared.kind.RenameMode.{RenameMode}
use Rattle.notify_types.specs.declared.kind.RenameMode.TheVariants as rename
use Rattle.debounce_model.specs.declared.case.Case.{Case}
use Rattle.debounce_model.specs.declared.case.Case.TheVariants.{Rescan, Creation, Removal, RenameFrom, RenameTo, Plain, Ignored}
use Rattle.debounce_model.specs.declared.file_id.FileId.{FileId}
use Rattle.debounce_model.specs.Moved.{joined_rename}
use Rattle.debounce_model.specs.Queues.{push, Queues, removal}
use Rattle.debounce_model.specs.Rename.{is_both_kind}
use Rattle.debounce_model.specs.RenameSlot.{first_half}
use Rattle.debounce_model.specs.State.{raised, State}

-- the case of a change of the name, by its mode and by whether the path exists
abbrev pub name_case : RenameMode → Bool → Case
name_case rename.Any exists = if exists then RenameTo else RenameFrom
name_case rename.To exists = RenameTo
name_case rename.From exists = RenameFrom
name_case mode exists = Ignored

-- the case of a kind
abbrev pub kind_case : EventKind → Bool → Case
kind_case (kind.Create k) exists = Creation
kind_case (kind.Remove k) exists = Removal
kind_case (kind.Modify (modify.Name mode)) exists = name_case mode exists
kind_case kind.Other exists = Ignored
kind_case k exists = Plain

-- the case of an event without the Rescan flag: without paths it is ignored
abbrev pub unflagged_case : EventKind → List PathValue → Bool → Case
unflagged_case k [] exists = Ignored
unflagged_case k (path ∷ paths) exists = kind_case k exists

-- the case of an event, whose first path exists or not: with the Rescan flag it is a rescan, whatever its kind
abbrev pub case_of : EventValue → Bool → Case
case_of e exists = if is_some e.attrs.flag then Rescan else unflagged_case e.kind e.paths exists

-- an event of this case may come: if it changes the queues it has a first path, and is no joined rename
abbrev pub FitsCase : Case → EventValue → Type 0
FitsCase Rescan e = Unit {0}
FitsCase Ignored e = Unit {0}
FitsCase case e = (0 < length e.paths) × (is_both_kind e.kind ≡ false)

-- the second half of a rename is joined to the first half if there is one, which was at this path and time
abbrev pub renamed_to : Queues → PathValue → Timed → Option (PathValue × ℕ) → Queues
renamed_to queues path x None = push queues path x
renamed_to queues path x (Some (from, time)) = joined_rename queues from path time x.event.attrs

-- the row of a case: what an event with this first path and this answer of the cache makes of the state
abbrev pub row : Case → State → Timed → PathValue → Option FileId → State
row Rescan s x path answer = record s { rescan_slot = Some x }
row Creation s x path answer = record s { queues = push s.queues path x }
row Removal s x path answer = record s { queues = removal s.queues path x }
row RenameFrom s x path answer =
    record s { queues = push s.queues path x; rename_slot = Some (record { half = x; number = answer }) }
row RenameTo s x path answer =
    record s {
      queues = renamed_to s.queues path x (first_half s.rename_slot x.event answer);
      rename_slot =
          None;
    }
row Plain s x path answer = record s { queues = push s.queues path x }
row Ignored s x path answer = s

-- an event of this case that is taken at its own time: the row of the case, and it is counted
abbrev pub taken_as : Case → State → Timed → Option FileId → State
taken_as case s x answer = record (row case s x (first_of x.event.paths) answer) {
  latest = x.time;
  taken =
      s.taken + 1;
}

-- an event that is taken at its own time
abbrev pub taken_step : State → Timed → Bool → Option FileId → State
taken_step s x exists answer = taken_as (case_of x.event exists) s x answer

-- an event that comes at this moment, with the moment at which it is taken
abbrev pub raised_event : State → EventValue → ℕ → Timed
raised_event s event now = record { event = event; time = raised s now }

-- what an event that comes at this moment makes of a state that takes it
abbrev pub event_step : State → EventValue → ℕ → Bool → Option FileId → State
event_step s event now exists answer = taken_step s (raised_event s event now) exists answer
