use Rattle.std.proofs.Common.{◌≡◌, drop}
use Rattle.std.specs.BTreeMap.{is_at}
use Rattle.std.specs.Map.{lookup}
use Rattle.std.specs.Option.{option_or}
use Rattle.notify_paths.specs.Path.{PathValue, path_cmp}
use Rattle.debounce_model.specs.Play.{events_of}
use Rattle.reader_paths.specs.Moves.{source_among}
use Rattle.reader_paths.proofs.moves.Moves.find_sources.Given as goal

-- what the events that are left tell, and else the sources so far, are all
abbrev pub invariant-loop-event : goal.invariant-loop-event
invariant-loop-event g l = (path : PathValue) →
    option_or (source_among l.self (events_of (drop l.event-index l.batch)) path)
    (lookup (is_at (path_cmp path)) l.sources.entries)
    ≡ source_among l.self (events_of l.batch) path
