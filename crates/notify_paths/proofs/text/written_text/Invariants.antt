use Rattle.std.proofs.Common.{◌≡◌, ◌++◌, map}
use Rattle.std.specs.Path.{components_remaining}
use Rattle.std.specs.String.{string_bytes}
use Rattle.notify_paths.specs.PathText.{parts_of, part_of, text_after, text_of}
use Rattle.notify_paths.proofs.text.written_text.Given as goal

abbrev pub invariant-loop-component : goal.invariant-loop-component
invariant-loop-component g l =
    string_bytes l.text ++ text_after l.slashed (map part_of (components_remaining l.component-iterator))
    ≡ text_of (parts_of l.fn.path)
