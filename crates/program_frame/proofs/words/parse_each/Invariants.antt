use Rattle.std.proofs.Common.{◌≡◌, ◌++◌, drop, map}
use Rattle.notify_paths.specs.PathText.{parts_of}
use Rattle.program_frame.proofs.words.parse_each.Given as goal

-- what was read so far, and then the texts that are left
abbrev pub invariant-loop-place : goal.invariant-loop-place
invariant-loop-place l = l.paths.items ++ map parts_of (map (λ place. place.now) (drop l.place-index l.places))
    ≡ map parts_of (map (λ place. place.now) l.places)
