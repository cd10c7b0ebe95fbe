use Rattle.std.proofs.Common.{◌≡◌, map, take}
use Rattle.serde_json.specs.View.{view}
use Rattle.program_logic.specs.Journal.Json.{path_data}
use Rattle.program_logic.proofs.journal.json.paths_value.Given as goal

-- the values so far are those of the first paths
abbrev pub invariant-loop-path : goal.invariant-loop-path
invariant-loop-path l = map view l.values.items ≡ map path_data (take l.path-index l.paths)
