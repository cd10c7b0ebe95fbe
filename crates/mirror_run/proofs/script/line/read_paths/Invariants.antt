use Rattle.std.proofs.Common.{◌≡◌, map, take}
use Rattle.mirror_run.specs.Script.{path_of}
use Rattle.mirror_run.proofs.script.line.read_paths.Given as goal

-- the paths so far are those of the first fields
abbrev pub invariant-loop-field : goal.invariant-loop-field
invariant-loop-field g l = l.paths.items ≡ map path_of (map (λ field. field.now) (take l.field-index l.fields))
