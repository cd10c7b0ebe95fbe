use Rattle.std.proofs.Common.{◌∙◌, subst, sym}
use Rattle.std.specs.Bool.{Decides}
use Rattle.program_logic.specs.Config.Touched.{Touches}
use Rattle.program_logic.proofs.ConfigLemmas.Touching.{batch_decides, among_touches}
use Rattle.program_logic.proofs.config.touched.is_touched.Goals as goal

pub returns-clause-exact : goal.returns-clause-exact
returns-clause-exact c =
    let file = c.args.file.now in
    let batch = c.args.batch.now in
    let decided = batch_decides file batch in
    subst (λ answer. Decides answer (Touches file batch)) (sym c.some_touches.ensures) decided

pub returns-clause-change : goal.returns-clause-change
returns-clause-change c = λ (kind, found).
    c.some_touches.ensures ∙ among_touches c.args.file.now kind c.args.batch.now found
