-- What a removal makes of the queues, in its two cases: words for the contracts of private functions.
use Rattle.std.specs.Prelude.{◌∷◌, []}
use Rattle.notify_types.specs.Event.{Timed}
use Rattle.notify_paths.specs.Path.{PathValue}
use Rattle.debounce_model.specs.Queues.{Queues, with_queue, without_below, without_queue}

-- the queues without what waits at the path, and below it
abbrev pub cancelled : Queues → PathValue → Queues
cancelled queues path = without_queue (without_below queues path) path

-- the queues without what waits below the path, and with this event alone at it
abbrev pub replaced : Queues → PathValue → Timed → Queues
replaced queues path x = with_queue (without_below queues path) path (x ∷ [])
