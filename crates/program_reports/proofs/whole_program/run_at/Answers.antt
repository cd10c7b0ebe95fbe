use Rattle.std.proofs.Common.{◌∙◌, inl, inr, refl}
use Rattle.std.specs.Prelude.{Err}
use Rattle.program_reports.proofs.whole_program.run_at.Goals as goal

pub returns-in-Ok-clause-run : goal.returns-in-Ok-clause-run
returns-in-Ok-clause-run g c =
    let new = c.new-taker.ensures in (
      c.end-answer.result,
      inr (
        _,
        _,
        c.watch-run.result,
        new.program,
        new.none,
        new.places ∙ c.in-Ok.ensures.ok,
        c.watch-run.ensures,
        c.end-answer.ensures,
      ),
      c.end.ensures.status,
    )

pub returns-in-Err-clause-run : goal.returns-in-Err-clause-run
returns-in-Err-clause-run g c =
    (Err c.in-Err.fault, inl (c.in-Err.fault, c.in-Err.ensures.err, refl), c.end-in-Err.ensures.status)
