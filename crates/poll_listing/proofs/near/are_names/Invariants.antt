use Rattle.std.proofs.Common.{◌≡◌, map}
use Rattle.std.specs.Path.{components_remaining}
use Rattle.notify_paths.specs.PathText.{part_of}
use Rattle.poll_listing.specs.Near.{are_names}
use Rattle.poll_listing.proofs.near.are_names.Given as goal

-- the components that are left decide
abbrev pub invariant-loop-component : goal.invariant-loop-component
invariant-loop-component l = are_names l.left (map part_of (components_remaining l.component-iterator))
    ≡ are_names l.depth (map part_of (components_remaining l.components))
