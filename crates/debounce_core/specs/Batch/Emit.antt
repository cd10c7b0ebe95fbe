-- What a tick takes from the rescan slot and the queues.
use Rattle.std.specs.Prelude.{List, ◌++◌, Option}
use Rattle.notify_types.specs.Event.{Timed}
use Rattle.debounce_model.specs.Due.{place_list}
use Rattle.debounce_model.specs.Queues.{Queues}
use Rattle.debounce_model.specs.Tick.{due_of}
use Rattle.debounce_queues.specs.declared.due.Due.{Due}
use Rattle.debounce_queues.specs.Due.{is_due}

-- the place list of the slot and the queues: the rescan event first
abbrev pub due_list : Due → Option Timed → Queues → List Timed
due_list due slot queues = due_of (is_due due) slot ++ place_list (is_due due) queues
