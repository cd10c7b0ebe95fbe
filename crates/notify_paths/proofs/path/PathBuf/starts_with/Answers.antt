use Rattle.std.proofs.Common.{◌∙◌, ap₂}
use Rattle.std.specs.String.{string_bytes}
use Rattle.notify_paths.specs.TextSteps.{begins_with}
use Rattle.notify_paths.specs.Path.{is_prefix}
use Rattle.notify_paths.proofs.Begins.{begins_says}
use Rattle.notify_paths.proofs.path.PathBuf.starts_with.Goals as goal

pub returns : goal.returns
returns g c =
    let base = string_bytes c.base.inside.text in
    let text = string_bytes c.self.inside.text in
    c.begins_with.ensures ∙ ap₂ begins_with c.as_bytes-2.ensures.value c.as_bytes.ensures.value
    ∙ begins_says base text c.base.invariant c.self.invariant ∙ ap₂ is_prefix c.base.view_is c.self.view_is
