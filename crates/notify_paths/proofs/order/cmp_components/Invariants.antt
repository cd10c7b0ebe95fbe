use Rattle.std.proofs.Common.{◌≡◌, map}
use Rattle.std.specs.Path.{components_remaining}
use Rattle.notify_paths.specs.Path.{path_cmp}
use Rattle.notify_paths.specs.PathText.{parts_of, part_of}
use Rattle.notify_paths.proofs.order.cmp_components.Given as goal

-- what is left is ordered as the whole
abbrev pub invariant-loop-component : goal.invariant-loop-component
invariant-loop-component l =
    path_cmp (map part_of (components_remaining l.component-iterator))
    (map part_of (components_remaining l.others)) ≡ path_cmp (parts_of l.fn.a) (parts_of l.fn.b)
