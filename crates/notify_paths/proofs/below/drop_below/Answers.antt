use Rattle.std.proofs.Common.{◌≡◌, ◌∙◌, ap, sym}
use Rattle.notify_paths.specs.Path.{is_below}
use Rattle.notify_paths.specs.Below.{without_below}
use Rattle.notify_paths.proofs.Removals.{all_left}
use Rattle.notify_paths.proofs.below.drop_below.Goals.{then-count-len, else-count-len}
use Rattle.notify_paths.proofs.below.drop_below.Goals as goal

pub returns-then-count-eq0 : goal.returns-then-count-eq0
returns-then-count-eq0 g c =
    sym (all_left (λ e. is_below e.0 c.args.path.now) c.args.map.now.entries (sym c.count_below-count.ensures
    ∙ c.if-count-eq0.true))

pub returns : goal.returns
returns g c =
    let path = c.args.path.now in
    let kept : without_below c.if-count-len.map.entries path ≡ without_below c.args.map.now.entries path =
    elim c.if-count-len.branch [
      | then-count-len w ↦ ap (λ m. without_below m.entries path) w.map-is ∙ w.remove_below.ensures
      | else-count-len w ↦ ap (λ m. without_below m.entries path) w.map-is
    ] in
    c.retain_outside.ensures ∙ kept
