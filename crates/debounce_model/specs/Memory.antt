-- Which events take no memory.
use Rattle.std.specs.Prelude.{Bool, true, false, ◌&&◌, ◌||◌}
use Rattle.notify_types.specs.Event.{EventValue, first_of}
use Rattle.debounce_model.specs.declared.case.Case.{Case}
use Rattle.debounce_model.specs.declared.case.Case.TheVariants.{Rescan, Creation, Removal, RenameFrom, RenameTo, Plain, Ignored}
use Rattle.debounce_model.specs.Calls.{is_silent, calls_of}
use Rattle.debounce_model.specs.Queues.{was_created_at, skips_at, Queues, queue_at}
use Rattle.debounce_model.specs.State.{State}
use Rattle.debounce_model.specs.Table.{case_of}

-- the queue of the event's first path, if there is one, skips it
abbrev pub skips_it : Queues → EventValue → Bool
skips_it queues e = skips_at (queue_at queues (first_of e.paths)) e.kind

-- the event's first path has a queue that was created: a removal cancels it
abbrev pub cancels : Queues → EventValue → Bool
cancels queues e = was_created_at (queue_at queues (first_of e.paths))

-- the row of a case: the event needs no memory for the state. That is so for a rescan, a push that is skipped, a
-- removal that cancels a creation, and what is ignored
abbrev pub row_grows_nothing : Case → Queues → EventValue → Bool
row_grows_nothing Rescan queues e = true
row_grows_nothing Creation queues e = skips_it queues e
row_grows_nothing Removal queues e = cancels queues e
row_grows_nothing RenameFrom queues e = false
row_grows_nothing RenameTo queues e = false
row_grows_nothing Plain queues e = skips_it queues e
row_grows_nothing Ignored queues e = true

-- an event, whose first path exists or not, needs no memory for the state
abbrev pub grows_nothing : State → EventValue → Bool → Bool
grows_nothing s e exists = row_grows_nothing (case_of e exists) s.queues e

-- an event takes no memory, with a cache that refuses nothing or any other
abbrev pub takes_no_memory : Bool → State → EventValue → Bool → Bool
takes_no_memory refuses_nothing s e exists = (refuses_nothing || is_silent (calls_of s e exists))
    && grows_nothing s e exists
