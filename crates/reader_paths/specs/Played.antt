-- What a run's replies make of a set of paths.
use Rattle.std.specs.Prelude.{List, [], ◌∷◌, ◌++◌}
use Rattle.notify_paths.specs.Path.{PathValue}
use Rattle.notify_types.specs.Event.{EventValue, Timed}
use Rattle.debounce_model.specs.Command.{CommandValue, EventCommand, ReplyValue, TakenReply, BatchReply}
use Rattle.debounce_model.specs.Play.{Paths, with_path, play, events_of}

-- the set with these paths too, one after the other
abbrev pub with_paths : Paths → List PathValue → Paths
with_paths paths [] = paths
with_paths paths (path ∷ more) = with_paths (with_path paths path) more

-- the events of a reply, if it is a batch
abbrev pub emitted_by : ReplyValue → List Timed
emitted_by (BatchReply batch) = batch
emitted_by reply = []

-- the events of all batches, in order
abbrev pub emitted : List ReplyValue → List Timed
emitted [] = []
emitted (reply ∷ replies) = emitted_by reply ++ emitted replies

-- the set after the batches
abbrev pub reader_paths : Paths → List ReplyValue → Paths
reader_paths start replies = play start (events_of (emitted replies))

-- the event, if the reply is that it was taken
abbrev pub taken_by : ReplyValue → EventValue → List EventValue
taken_by (TakenReply answer) event = event ∷ []
taken_by reply event = []

-- the command's event, if it has one that was taken
abbrev pub accepted_by : CommandValue → ReplyValue → List EventValue
accepted_by (EventCommand event now exists) reply = taken_by reply event
accepted_by command reply = []
