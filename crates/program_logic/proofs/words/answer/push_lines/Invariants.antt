use Rattle.std.proofs.Common.{◌≡◌, ◌++◌, drop, map}
use Rattle.program_logic.specs.Words.Answer.{lines_of}
use Rattle.program_logic.proofs.words.answer.push_lines.Given as goal

-- the lines so far, and those of the paths that are left, are those of all
abbrev pub invariant-loop-path : goal.invariant-loop-path
invariant-loop-path l =
    l.lines.items ++ lines_of (map (λ p. p.now) (drop l.path-index l.paths))
    ≡ l.fn.lines.items ++ lines_of (map (λ p. p.now) l.fn.paths)
