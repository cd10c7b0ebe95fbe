-- A test that some event of a batch passes: it passes where one of the place list does.
use Rattle.std.proofs.Common.{◌≡◌, Bool, ◌||◌, List, [], ◌∷◌, map, refl, ap, sym, ◌∙◌}
use Rattle.std.specs.List.{list_any}
use Rattle.std.proofs.lemmas.List.Sorted.{list_any-IsPermutation}
use Rattle.notify_types.specs.Event.{Timed}
use Rattle.debounce_model.specs.Order.{InBatchOrder, placed}
use Rattle.debounce_model.proofs.OrderLemmas.{events-placed}

-- a test of images
any-map : {X Y : Type 0} (f : Y → Bool) (g : X → Y) (xs : List X) → list_any f (map g xs)
    ≡ list_any (λ x. f (g x)) xs
any-map f g [] = refl
any-map f g (x ∷ xs) = ap (λ b. f (g x) || b) (any-map f g xs)

-- a batch passes a test where its place list does
pub any-batch : (f : Timed → Bool) (xs batch : List Timed) → InBatchOrder xs batch →
    list_any f xs ≡ list_any f batch
any-batch f xs batch o =
    ap (list_any f) (sym (events-placed [] xs))
    ∙ any-map f (λ k. k.event) (placed [] xs)
    ∙ list_any-IsPermutation (λ k. f k.event) (placed [] xs) o.ranked o.are
    ∙ sym (any-map f (λ k. k.event) o.ranked)
    ∙ ap (list_any f) o.events
