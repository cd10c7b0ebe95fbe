use Rattle.std.proofs.Common.{◌==◌, [], ◌∷◌, ap, length, refl, sym, ◌∙◌}
use Rattle.std.specs.Prelude.{Ok}
use Rattle.program_reports.proofs.FoldersLemmas.RestLemmas.{batch_of}
use Rattle.program_reports.proofs.folders.rest.push_batch.Goals as goal

pub returns : goal.returns
returns c = (
  Ok c.args.batch ∷ [],
  batch_of c.args.batch c.args.batch.items refl
      (ap (λ xs. length xs == 0) (sym c.as_slice.ensures.value) ∙ sym c.is_empty.ensures ∙ c.if-is_empty.false),
  c.in_ok-push.ensures.items,
)
