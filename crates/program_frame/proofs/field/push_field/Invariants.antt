use Rattle.std.proofs.Common.{◌≡◌, ◌++◌, drop}
use Rattle.program_frame.specs.Fields.{field_of}
use Rattle.program_frame.proofs.field.push_field.Given as goal

-- what is written so far, and then the field of the text that is left
abbrev pub invariant-loop-byte : goal.invariant-loop-byte
invariant-loop-byte l = l.line.items ++ field_of (drop l.byte-index l.text)
    ≡ l.fn.line.items ++ field_of l.fn.text
