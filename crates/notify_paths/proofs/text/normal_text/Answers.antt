use Rattle.std.proofs.Common.{◌≡◌, ◌∙◌, sym, ap, subst, IfOk, true}
use Rattle.std.specs.String.{string_bytes}
use Rattle.notify_paths.specs.TextSteps.{names_follow}
use Rattle.notify_paths.proofs.Normals.{normal_follows}
use Rattle.notify_paths.proofs.text.normal_text.Goals as goal

pub returns-then-names_follow : goal.returns-then-names_follow
returns-then-names_follow g c =
    let path = c.args.path.now in
    let follows : names_follow path ≡ true = ap names_follow (sym c.as_bytes.ensures.value)
    ∙ sym c.names_follow.ensures ∙ c.if-names_follow.true in
    subst (λ t. IfOk c.from_str.result (λ s. string_bytes s ≡ t)) (sym (normal_follows path follows))
    c.from_str.ensures.ok
