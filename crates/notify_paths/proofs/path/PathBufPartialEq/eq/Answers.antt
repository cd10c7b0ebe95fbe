use Rattle.std.proofs.Common.{◌≡◌, ◌∙◌, ap₂}
use Rattle.std.specs.String.{string_bytes}
use Rattle.notify_paths.specs.Path.{path_eq}
use Rattle.notify_paths.specs.PathLaws.{path_eq_decides}
use Rattle.notify_paths.proofs.Texts.{equal_texts}
use Rattle.notify_paths.proofs.path.PathBufPartialEq.eq.Goals as goal

pub returns : goal.returns
returns g c =
    let value : c.eq.result ≡ path_eq c.args.self.now c.args.other.now =
    c.eq.ensures ∙ equal_texts (string_bytes c.self.inside.text) (string_bytes c.other.inside.text)
    c.self.invariant c.other.invariant
    ∙ ap₂ path_eq c.self.view_is c.other.view_is in
    record { value = value; same = rw value (path_eq_decides c.args.self.now c.args.other.now) }
