use Rattle.std.proofs.Common.{◌∙◌, ◌≡◌, ap, refl, rules, List, [], ◌∷◌, Bool, map, tests}
use Rattle.std.specs.Prelude.{◌||◌}
use Rattle.std.specs.List.{list_any}
use Rattle.std.proofs.lemmas.Iterator.{YieldsList-from_slice}
use Rattle.std.proofs.lemmas.Iterator.Search.{any_from_yields_List}
use Rattle.mirror_run.specs.Script.{is_empty}
use Rattle.mirror_run.proofs.script.line.has_empty.Goals as goal

-- a test of some image
list_any-map : {X Y : Type 0} (f : X → Y) (p : Y → Bool) (xs : List X) → list_any (λ x. p (f x)) xs
    ≡ list_any p (map f xs)
list_any-map f p [] = refl
list_any-map f p (x ∷ xs) = ap (λ b. p (f x) || b) (list_any-map f p xs)

pub returns : goal.returns
returns c =
    any_from_yields_List (λ field. is_empty field.now) _ _ _ c.any.ensures.ran
    (YieldsList-from_slice c.args.fields.now (cc)) (λ x b q k. search (rules, tests))
    ∙ list_any-map (λ field. field.now) is_empty c.args.fields.now
