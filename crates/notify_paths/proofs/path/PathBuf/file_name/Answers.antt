use Rattle.std.proofs.Common.{◌∙◌, sym, ap}
use Rattle.std.specs.Path.{components_remaining, component_bytes}
use Rattle.notify_paths.specs.PathMoves.{file_name_of, name_of}
use Rattle.notify_paths.proofs.Folders.{file_name_at}
use Rattle.notify_paths.proofs.path.PathBuf.file_name.Goals as goal

pub returns : goal.returns
returns g c =
    c.name.ensures
    ∙ ap name_of c.part_of_component.ensures
    ∙ sym (file_name_at (components_remaining c.components.result) (components_remaining c.next_back.new.self)
    (component_bytes c.in_ok-last.last) c.in_ok-last.ensures.steps.0)
    ∙ ap file_name_of c.components.ensures.value
