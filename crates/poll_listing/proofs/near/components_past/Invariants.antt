use Rattle.std.proofs.Common.{◌≡◌, drop, length, map}
use Rattle.std.specs.Path.{components_remaining}
use Rattle.notify_paths.specs.PathText.{part_of}
use Rattle.poll_listing.proofs.near.components_past.Given as goal

-- past as many as the root has left, there is what lies past the root
abbrev pub invariant-loop-part : goal.invariant-loop-part
invariant-loop-part g l =
    drop (length (components_remaining l._part-iterator)) (map part_of (components_remaining l.rest))
    ≡ drop (length l.root) l.path
