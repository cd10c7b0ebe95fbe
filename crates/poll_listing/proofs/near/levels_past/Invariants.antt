use Rattle.std.proofs.Common.{◌≡◌, map}
use Rattle.std.specs.Path.{components_remaining}
use Rattle.notify_paths.specs.PathText.{part_of}
use Rattle.poll_listing.specs.Near.{levels_left}
use Rattle.poll_listing.proofs.near.levels_past.Given as goal

-- the components that are left decide
abbrev pub invariant-loop-component : goal.invariant-loop-component
invariant-loop-component l = levels_left l.left (map part_of (components_remaining l.component-iterator))
    ≡ levels_left l.depth (map part_of (components_remaining l.components))
