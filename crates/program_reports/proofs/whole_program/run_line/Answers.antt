use Rattle.program_frame.proofs.Ending.{ran, refused}
use Rattle.program_reports.specs.WholeProgram.{RunsFolder}
use Rattle.program_reports.proofs.whole_program.run_line.Goals as goal

pub returns-then-is_err-clause-run : goal.returns-then-is_err-clause-run
returns-then-is_err-clause-run g c =
    refused c.args.line _ _ c.in-Ok.matches c.check_hints-checked.result c.end.result
    c.in-Ok.ensures.reading c.check_hints-checked.ensures c.if-is_err.ensures.value c.end.ensures.status

pub returns-clause-run : goal.returns-clause-run
returns-clause-run g c =
    let run = c.run_at.ensures.run in
    ran c.args.line _
    (RunsFolder g.P.TakesBatches.begins g.P.TakesBatches.takes g.P.TakesBatches.wants c.args.program)
    c.in-Ok.matches c.check_hints-checked.result run.0 c.run_at.result
    c.in-Ok.ensures.reading c.check_hints-checked.ensures c.if-is_err.ensures.value run.1 run.2
