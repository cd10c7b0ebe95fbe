use Rattle.std.proofs.Common.{rules}
use Rattle.std.specs.Fn.{FnOnceReturnsAt}
use Rattle.program_frame.proofs.Ending.{ran, refused}
use Rattle.program_frame.proofs.program.run_words.Goals as goal

pub returns-then-is_err : goal.returns-then-is_err
returns-then-is_err g c =
    refused c.args.command _ _ c.in-Ok.matches c.check_hint_words-checked.result c.end.result
    c.in-Ok.ensures.reading c.check_hint_words-checked.ensures c.if-is_err.ensures.value c.end.ensures.status

pub returns : goal.returns
returns g c =
    let run : FnOnceReturnsAt g.F.FnOnce c.args.run c.in-Ok.matches c.run-ran.result = search rules in
    ran c.args.command _ (FnOnceReturnsAt g.F.FnOnce c.args.run) c.in-Ok.matches c.check_hint_words-checked.result
    c.run-ran.result c.end-2.result c.in-Ok.ensures.reading c.check_hint_words-checked.ensures
    c.if-is_err.ensures.value run c.end-2.ensures.status
