use Rattle.std.proofs.Common.{◌<◌, ◌-◌, ◌+◌, ◌∙◌, sym, arith, length, drop, length-drop}
use Rattle.std.proofs.lemmas.Bool.Decides.{nat_tests}
use Rattle.std.proofs.lemmas.List.{take_all}
use Rattle.mirror_run.proofs.ScriptLemmas.Lines.{lines-at, lines-last}
use Rattle.mirror_run.proofs.script.next_line.Goals as goal

pub returns-in-Some-clause-first : goal.returns-in-Some-clause-first
returns-in-Some-clause-first c =
    let bs = c.args.bytes.now in
    let n = c.in-Some.at + 1 in
    rw (c.without_return.ensures, take_all (length bs - n) (drop n bs) (omega (arith, length-drop n bs)))
    (lines-at bs c.in-Some.at (sym c.line_feed.ensures ∙ c.in-Some.is))

pub returns-in-None-clause-first : goal.returns-in-None-clause-first
returns-in-None-clause-first c =
    let some : 0 < length c.args.bytes.now =
    grind (arith, nat_tests, c.is_empty.ensures, c.if-is_empty.false) in
    lines-last c.args.bytes.now (sym c.line_feed.ensures ∙ c.in-None.is) some
