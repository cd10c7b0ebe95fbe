use Rattle.std.proofs.Common.{◌≡◌, drop}
use Rattle.debounce_model.specs.Play.{events_of}
use Rattle.reader_paths.specs.Plan.{look_at, stands}
use Rattle.program_logic.specs.Words.Index.{without_gone}
use Rattle.program_logic.proofs.words.index.DocumentIndex.forget_gone.Given as goal

-- what is left to forget leaves what all leave of the index
abbrev pub invariant-loop-event : goal.invariant-loop-event
invariant-loop-event g l =
    without_gone (stands (look_at l.read.entries)) (events_of (drop l.event-index l.batch)) l.self
    ≡ without_gone (stands (look_at l.read.entries)) (events_of l.batch) l.fn.self
