-- A list to which a loop pushes the image of each item.
use Rattle.std.proofs.Common.{◌≡◌, ℕ, ◌+◌, ◌<◌, List, [], ◌∷◌, ◌++◌, length, get_or, take, map, ap, sym, ◌∙◌, append_assoc}
use Rattle.debounce_model.proofs.Lists.{mapped_more}

-- one more image is pushed
pub pushed_more : {X Y : Type 0} (f : X → Y) (xs : List X) (i : ℕ) (old : List Y) {x : X} {y : Y} {list new : List Y} →
    i < length xs → x ≡ get_or xs i x → list ≡ old ++ map f (take i xs) → y ≡ f x → new ≡ list ++ y ∷ [] →
    new ≡ old ++ map f (take (i + 1) xs)
pushed_more f xs i old {x} h is made one pushed =
    pushed ∙ rw (one, made) (append_assoc old (map f (take i xs)) (f x ∷ [])
    ∙ ap (λ r. old ++ r) (sym (mapped_more f xs i x h is)))
