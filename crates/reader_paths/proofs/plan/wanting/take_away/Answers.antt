use Rattle.std.proofs.Common.{◌∙◌, ap, not}
use Rattle.std.specs.Map.{keys_of}
use Rattle.notify_paths.specs.Path.{is_prefix}
use Rattle.reader_paths.proofs.PlanLemmas.Keys.{keys_of-filter}
use Rattle.reader_paths.proofs.plan.wanting.take_away.Goals as goal

pub returns : goal.returns
returns g c =
    ap keys_of c.drop_at_or_below.ensures
    ∙ keys_of-filter (λ p. not (is_prefix c.args.path.now p)) c.args.paths.now.entries
