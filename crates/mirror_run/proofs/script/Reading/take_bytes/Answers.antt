use Rattle.std.proofs.Common.{◌∙◌, sym, ap}
use Rattle.std.proofs.lemmas.Str.{is_utf8-from_IsUtf8}
use Rattle.mirror_run.specs.Script.{line_of}
use Rattle.mirror_run.specs.Script.ScriptView.{reading_value}
use Rattle.mirror_run.proofs.ScriptLemmas.Lines.{after_line-fault, after_line-skipped, after_line-said}
use Rattle.mirror_run.proofs.script.Reading.take_bytes.Goals as goal

pub returns-in_default-clause-err : goal.returns-in_default-clause-err
returns-in_default-clause-err g c =
    λ e. after_line-fault (reading_value c.args.self.now) c.args.bytes.now c.in_default.ensures.cases.0

pub returns-then-is_skipped-clause-ok : goal.returns-then-is_skipped-clause-ok
returns-then-is_skipped-clause-ok g c =
    after_line-skipped (reading_value c.args.self.now) c.args.bytes.now
    (is_utf8-from_IsUtf8 c.args.bytes.now c.in-Ok.ensures.cases.1) (sym c.is_skipped.ensures
    ∙ c.if-is_skipped.true)

pub returns-clause-ok : goal.returns-clause-ok
returns-clause-ok g c =
    let said = after_line-said (reading_value c.args.self.now) c.args.bytes.now
    (is_utf8-from_IsUtf8 c.args.bytes.now c.in-Ok.ensures.cases.1) (sym c.is_skipped.ensures
    ∙ c.if-is_skipped.false) in
    let line = ap line_of (sym c.in-Ok.ensures.cases.0) ∙ c.in_ok-read_line.ensures.ok in
    rw (said, line) c.take.ensures.ok
