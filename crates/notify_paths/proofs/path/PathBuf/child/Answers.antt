use Rattle.std.proofs.Common.{◌≡◌, ◌++◌, ◌∷◌, [], ◌∙◌, sym, ap, true}
use Rattle.std.specs.String.{string_bytes}
use Rattle.notify_paths.specs.Path.{NamePart}
use Rattle.notify_paths.specs.TextSteps.{joined}
use Rattle.notify_paths.specs.PathText.{parts_of, is_proper_name}
use Rattle.notify_paths.proofs.Joins.{IsTextOf, named, child_named}
use Rattle.notify_paths.proofs.path.PathBuf.child.Given.{Over}
use Rattle.notify_paths.proofs.path.PathBuf.child.Goals as goal

proper : (g : Over) (c : goal.In_ok-text g) → is_proper_name c.args.name.now ≡ true
proper g c = sym c.is_proper_name.ensures ∙ c.if-not-is_proper_name.false

text : (g : Over) (c : goal.In_ok-text g) →
    IsTextOf (string_bytes c.in_ok-text.text) (parts_of (string_bytes c.self.inside.text)
    ++ NamePart c.args.name.now ∷ [])
text g c = named (string_bytes c.self.inside.text) c.args.name.now (string_bytes c.in_ok-text.text)
    c.self.invariant (proper g c) (c.in_ok-text.ensures
    ∙ ap (λ t. joined t c.args.name.now) c.as_str.ensures.value)

pub invariant_of-result : goal.invariant_of-result
invariant_of-result g c = (text g c).1

pub returns : goal.returns
returns g c = child_named c.args.self.now c.args.name.now _ (proper g c) ((text g c).0
    ∙ ap (λ p. p ++ NamePart c.args.name.now ∷ []) c.self.view_is)
