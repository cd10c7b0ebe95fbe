use Rattle.std.proofs.Common.{◌∙◌, sym, lit<, true≢false}
use Rattle.std.proofs.lemmas.Str.Pattern.{starts_char}
use Rattle.std.proofs.lemmas.Str.Parse.{parse_plain}
use Rattle.mirror_run.proofs.ScriptLemmas.Numbers.{numerals, number_read}
use Rattle.mirror_run.proofs.script.line.read_number.Goals as goal

pub returns : goal.returns
returns c =
    let plus = starts_char 43 c.args.field.now c.starts_with.result c.starts_with.ensures.cases (lit< tt)
    (lit< tt) in
    c.ok.ensures.value
    ∙ number_read 128 c.args.field.now c.parse.result
    (parse_plain numerals 128 c.args.field.now c.parse.result c.parse.ensures.value.0
    (λ e. absurd (true≢false (sym (plus.1 e) ∙ c.if-starts_with.false))))
