use Rattle.std.proofs.Common.{◌≡◌, ◌++◌, drop, true}
use Rattle.program_logic.specs.Config.Paragraph.{indented}
use Rattle.program_logic.proofs.config.printed.push_indented.Given as goal

-- what is written so far, and then the text that is left, indented
abbrev pub invariant-loop-byte : goal.invariant-loop-byte
invariant-loop-byte l = l.lines.items ++ indented l.begins (drop l.byte-index l.text)
    ≡ l.fn.lines.items ++ indented true l.fn.text
