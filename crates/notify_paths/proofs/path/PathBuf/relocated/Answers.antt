use Rattle.std.proofs.Common.{◌<◌, ◌∙◌, sym, ap, ap₂, subst, length}
use Rattle.std.specs.String.{string_bytes}
use Rattle.notify_paths.specs.Path.{is_prefix}
use Rattle.notify_paths.specs.PathMoves.{relocated}
use Rattle.notify_paths.specs.TextSteps.{joined, text_past}
use Rattle.notify_paths.specs.PathText.{parts_of}
use Rattle.notify_paths.proofs.Joins.{IsTextOf, base_begins, placed}
use Rattle.notify_paths.proofs.path.PathBuf.relocated.Given.{Over}
use Rattle.notify_paths.proofs.path.PathBuf.relocated.Goals as goal

pub text_past-rest-requires : goal.text_past-rest-requires
text_past-rest-requires g c =
    rw (c.as_str.ensures.value, c.as_str-2.ensures.value)
    (base_begins (string_bytes c.from.inside.text) (string_bytes c.self.inside.text) c.from.invariant
    c.self.invariant (ap₂ is_prefix c.from.view_is c.self.view_is ∙ c.requires.below))

text : (g : Over) (c : goal.In_ok-text g) →
    IsTextOf (string_bytes c.in_ok-text.text) (relocated (parts_of (string_bytes c.from.inside.text))
    (parts_of (string_bytes c.to.inside.text)) (parts_of (string_bytes c.self.inside.text)))
text g c =
    placed (string_bytes c.from.inside.text) (string_bytes c.to.inside.text) (string_bytes c.self.inside.text)
    (string_bytes c.in_ok-text.text)
    c.from.invariant c.to.invariant c.self.invariant
    (subst (λ p. 0 < length p) (sym c.from.view_is) c.requires.some)
    (ap₂ is_prefix c.from.view_is c.self.view_is ∙ c.requires.below)
    (c.in_ok-text.ensures ∙ ap₂ joined c.as_str-3.ensures.value (c.text_past-rest.ensures
    ∙ ap₂ text_past c.as_str-2.ensures.value c.as_str.ensures.value))

pub invariant_of-result : goal.invariant_of-result
invariant_of-result g c = (text g c).1

pub returns : goal.returns
returns g c = (text g c).0
    ∙ (ap₂ (λ f p. relocated f (parts_of (string_bytes c.to.inside.text)) p) c.from.view_is c.self.view_is
    ∙ ap (λ t. relocated c.args.from.now t c.args.self.now) c.to.view_is)
