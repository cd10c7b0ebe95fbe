use Rattle.std.proofs.Common.{◌≡◌, drop}
use Rattle.debounce_model.specs.Play.{play, events_of}
use Rattle.reader_paths.proofs.path_set.PathSet.play_in_place.Given as goal

-- what is left to play makes what all make of the set
abbrev pub invariant-loop-event : goal.invariant-loop-event
invariant-loop-event g l = play l.self (events_of (drop l.event-index l.events))
    ≡ play l.fn.self (events_of l.fn.events)
