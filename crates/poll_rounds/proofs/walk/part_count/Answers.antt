use Rattle.std.proofs.Common.{◌∙◌, ap, length, refl}
use Rattle.std.proofs.lemmas.Iterator.Consumers.{count_from_yields_List, YieldsList-from_first}
use Rattle.notify_paths.specs.PathView.{part_value, parts_left}
use Rattle.poll_rounds.proofs.walk.part_count.Goals as goal

pub returns : goal.returns
returns g c =
    count_from_yields_List c.parts.result c.count.result c.count.ensures.ran
    (YieldsList-from_first part_value parts_left (parts_left c.parts.result) refl)
    ∙ ap length c.parts.ensures.value
