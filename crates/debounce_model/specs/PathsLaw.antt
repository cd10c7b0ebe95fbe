-- The paths law: a reader who plays what was emitted, and then what still waits, has just the raw paths.
use Rattle.std.specs.Prelude.{◌≡◌, List, [], ◌∷◌, ◌++◌}
use Rattle.std.specs.List.Sorted.{IsStrictlySortedBy}
use Rattle.notify_types.specs.Event.{Timed}
use Rattle.notify_paths.specs.Path.{path_cmp}
use Rattle.debounce_model.specs.Command.{CommandValue, ReplyValue, BatchReply}
use Rattle.debounce_model.specs.Honest.{IsHonest}
use Rattle.debounce_model.specs.Play.{Paths, play, events_of, raw_paths}
use Rattle.debounce_model.specs.State.{State}
use Rattle.debounce_model.specs.Tick.{IsOutlook}

-- what was emitted: the batches, in a row
abbrev pub emitted : List ReplyValue → List Timed
emitted [] = []
emitted (BatchReply batch ∷ replies) = batch ++ emitted replies
emitted (reply ∷ replies) = emitted replies

-- what a reader has who began with these paths and played what was emitted, and then the outlook
abbrev pub read_paths : Paths → List ReplyValue → List Timed → Paths
read_paths paths replies outlook = play (play paths (events_of (emitted replies))) (events_of outlook)

-- from each set of paths from which the stream is honest, a reader has the raw paths: after the outlook of this
-- final state, whatever the clock did
abbrev pub LeavesRawPaths : List CommandValue → List ReplyValue → State → Type 0
LeavesRawPaths commands replies s =
    (paths : Paths) (outlook : List Timed) →
    IsStrictlySortedBy path_cmp paths →
    IsHonest paths commands replies →
    IsOutlook s outlook →
    read_paths paths replies outlook ≡ raw_paths paths commands replies
