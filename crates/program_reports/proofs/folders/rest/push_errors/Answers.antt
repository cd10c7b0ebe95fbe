use Rattle.std.proofs.Common.{[], ◌∷◌, sym, ◌∙◌}
use Rattle.std.specs.Prelude.{Err}
use Rattle.program_reports.proofs.FoldersLemmas.RestLemmas.{list_of}
use Rattle.program_reports.proofs.folders.rest.push_errors.Goals as goal

pub returns : goal.returns
returns c = (
  Err c.in_ok-to_vec.field-0 ∷ [],
  list_of c.in_ok-to_vec.field-0 c.args.errors.now (c.in_ok-to_vec.ensures.items_if_clones_equal (λ _ _ same. same))
      (sym c.is_empty.ensures ∙ c.if-is_empty.false),
  c.in_ok-push.ensures.items,
)
