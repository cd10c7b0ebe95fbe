use Rattle.std.proofs.Common.{◌≡◌, ◌<◌, ◌∷◌, ◌∙◌, sym, ap, map, length, arith}
use Rattle.std.specs.Path.{components_remaining, component_bytes}
use Rattle.notify_paths.specs.PathMoves.{folder_value}
use Rattle.notify_paths.specs.PathText.{part_of}
use Rattle.notify_paths.specs.PathView.{folders_left}
use Rattle.notify_paths.proofs.Joins.{folders_step}
use Rattle.notify_paths.proofs.part.FoldersAboveIterator.next.Goals as goal

steps : (c : goal.Then-has_part) → folders_left c.args.self.now
    ≡ folder_value c.as_path-folder.result ∷ folders_left record { components = c.next_back.new.self }
steps c =
    folders_step (components_remaining c.args.self.now.components) (components_remaining c.next_back.new.self)
    (component_bytes c.in_ok-next_back.field-0) (folder_value c.as_path-folder.result)
    (c.in_ok-next_back.ensures.steps.0) (ap (map part_of) c.as_path-folder.ensures) (sym c.has_part.ensures
    ∙ c.if-has_part.true)

pub returns-then-has_part-clause-steps : goal.returns-then-has_part-clause-steps
returns-then-has_part-clause-steps c = steps c

pub returns-then-has_part-clause-goes : goal.returns-then-has_part-clause-goes
returns-then-has_part-clause-goes c =
    let fewer : length (folders_left record { components = c.next_back.new.self }) < length
    (folders_left c.args.self.now) = rw (steps c) (omega arith) in
    record { on = λ f. (tt, f, fewer); keeps = tt; rests = λ f. tt }
