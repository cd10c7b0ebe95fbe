use Rattle.std.proofs.Common.{◌∷◌, [], refl, rules}
use Rattle.std.specs.Prelude.{None, Some, Err, Ok}
use Rattle.program_frame.proofs.ReportsLemmas.LoopLemmas.{waited}
use Rattle.program_frame.proofs.reports.follow.hand_on.Goals as goal

pub loop-preserved-in-Continue-1 : goal.loop-preserved-in-Continue-1
loop-preserved-in-Continue-1 g c = let l = c.loop in record {
  iterates = (tt, tt);
  done = λ answer given after rest. l.invariant.done answer given after (
    Some c.in-Report.report ∷ rest.0,
    (
      Ok tt,
      c.wait.new.self,
      c.take.new.self,
      (
        waited g.S.GivesReports.gives _ _ _ _ _ c.patience.ensures c.in-Report.ensures,
        c.in_ok-take-in-Report.ensures,
      ),
      rest.1,
    ),
  );
}

pub returns-in_err-take-in-Report : goal.returns-in_err-take-in-Report
returns-in_err-take-in-Report g c = let l = c.loop in l.invariant.done c.from_residual.result _ _ (
  Some c.in-Report.report ∷ [],
  (
    Err c.in_err-take-in-Report.field-0.0,
    c.wait.new.self,
    c.take.new.self,
    (
      waited g.S.GivesReports.gives _ _ _ _ _ c.patience.ensures c.in-Report.ensures,
      c.in_err-take-in-Report.ensures,
    ),
    (refl, search rules, refl, refl),
  ),
)

pub loop-preserved : goal.loop-preserved
loop-preserved g c = let l = c.loop in record {
  iterates = (tt, tt);
  done = λ answer given after rest. l.invariant.done answer given after (
    None ∷ rest.0,
    (
      Ok tt,
      c.wait.new.self,
      c.pass.new.self,
      (
        waited g.S.GivesReports.gives _ _ _ _ _ c.patience.ensures c.in-Nothing.ensures,
        c.in_ok-pass-in-Nothing.ensures,
      ),
      rest.1,
    ),
  );
}

pub returns-in_err-pass-in-Nothing : goal.returns-in_err-pass-in-Nothing
returns-in_err-pass-in-Nothing g c = let l = c.loop in
    l.invariant.done c.from_residual-in_err-pass-in-Nothing.result _ _ (
      None ∷ [],
      (
        Err c.in_err-pass-in-Nothing.field-0.0,
        c.wait.new.self,
        c.pass.new.self,
        (
          waited g.S.GivesReports.gives _ _ _ _ _ c.patience.ensures c.in-Nothing.ensures,
          c.in_err-pass-in-Nothing.ensures,
        ),
        (refl, search rules, refl, refl),
      ),
    )
