use Rattle.std.proofs.Common.{◌∙◌, ap, length, eqb}
use Rattle.std.specs.String.{string_bytes}
use Rattle.notify_paths.proofs.Texts.{none_empty}
use Rattle.notify_paths.proofs.path.PathBuf.is_empty.Goals as goal

pub returns : goal.returns
returns g c =
    c.is_empty.ensures ∙ ap (λ t. eqb (length t) 0) c.as_bytes.ensures.value
    ∙ none_empty (string_bytes c.self.inside.text) c.self.invariant ∙ ap (λ p. eqb (length p) 0) c.self.view_is
