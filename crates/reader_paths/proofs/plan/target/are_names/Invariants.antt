use Rattle.std.proofs.Common.{◌≡◌, map}
use Rattle.std.specs.List.{list_all}
use Rattle.std.specs.Path.{components_remaining}
use Rattle.notify_paths.specs.PathText.{part_of}
use Rattle.poll_listing.specs.Near.{is_name_part}
use Rattle.reader_paths.proofs.plan.target.are_names.Given as goal

-- what is left decides as all does
abbrev pub invariant-loop-component : goal.invariant-loop-component
invariant-loop-component l = list_all is_name_part (map part_of (components_remaining l.component-iterator))
    ≡ list_all is_name_part (map part_of (components_remaining l.components))
