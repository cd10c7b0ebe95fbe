-- The events of a queue, moved from the back of the reversed list.
use Rattle.std.proofs.Common.{◌≡◌, ℕ, ◌+◌, arith, Bool, true, false, cond, ◌||◌, List, [], ◌∷◌, ◌++◌, refl, ap, sym, ◌∙◌, length, take, drop, append_assoc}
use Rattle.std.specs.Prelude.{reverse}
use Rattle.std.specs.List.{list_any}
use Rattle.std.proofs.lemmas.List.{drop_at, length-drop, length-reverse, reverse-append, reverse-reverse, take_at, take-append-drop}
use Rattle.std.proofs.lemmas.List.Folds.{list_any-append}
use Rattle.notify_types.specs.Event.{Timed}
use Rattle.notify_types.specs.KindNumbers.{kind_eq}
use Rattle.debounce_model.specs.Due.{last_of_kind}
use Rattle.debounce_queues.specs.Due.{unless_later}

module _ {X : Type 0} where
  -- the order of a list says nothing of what it has
  any-reverse : (f : X → Bool) (xs : List X) → list_any f (reverse xs) ≡ list_any f xs
  any-reverse f [] = refl
  any-reverse f (x ∷ xs) = ap (list_any f) (reverse-append (x ∷ []) xs)
      ∙ list_any-append f (reverse xs) (x ∷ []) ∙ ap (λ b. b || (f x || false)) (any-reverse f xs)
      ∙ swap (list_any f xs) (f x)
    where
      swap : (a b : Bool) → (a || (b || false)) ≡ (b || a)
      swap true true = refl
      swap true false = refl
      swap false true = refl
      swap false false = refl

  module _ (xs : List X) (count left : ℕ) (size : left + count ≡ length xs) where
    -- a list that is turned round, by its two parts
    turned : reverse xs ≡ reverse (drop count xs) ++ reverse (take count xs)
    turned = ap reverse (sym (take-append-drop count xs)) ∙ reverse-append (take count xs) (drop count xs)

    rest_long : length (reverse (drop count xs)) ≡ left
    rest_long = omega (arith, length-reverse (drop count xs), length-drop count xs, size)

    -- its end is the beginning, turned round
    pub end_turned : reverse (drop left (reverse xs)) ≡ take count xs
    end_turned = ap (λ l. reverse (drop left l)) turned
        ∙ ap reverse (drop_at (reverse (drop count xs)) (reverse (take count xs)) left rest_long)
        ∙ reverse-reverse (take count xs)

    -- .. and its beginning the end
    pub front_turned : reverse (take left (reverse xs)) ≡ drop count xs
    front_turned = ap (λ l. reverse (take left l)) turned
        ∙ ap reverse (take_at (reverse (drop count xs)) (reverse (take count xs)) left rest_long)
        ∙ reverse-reverse (drop count xs)

-- the last events of a kind, the first by itself
first_of_kind : (x : Timed) (xs : List Timed) → last_of_kind (x ∷ xs) ≡ unless_later x xs ++ last_of_kind xs
first_of_kind x xs = by (list_any (λ y. kind_eq x.event.kind y.event.kind) xs) refl
  where
    by : (b : Bool) → list_any (λ y. kind_eq x.event.kind y.event.kind) xs ≡ b → last_of_kind (x ∷ xs)
        ≡ unless_later x xs ++ last_of_kind xs
    by true e = rw e refl
    by false e = rw e refl

-- the event at the back comes first of what is left
pub last_of_back : (events next : List Timed) (x : Timed) → events ≡ next ++ x ∷ [] →
    last_of_kind (reverse events) ≡ unless_later x next ++ last_of_kind (reverse next)
last_of_back events next x e =
    ap (λ l. last_of_kind (reverse l)) e
    ∙ ap last_of_kind (reverse-append next (x ∷ []))
    ∙ first_of_kind x (reverse next)
    ∙ ap (λ b. cond b [] (x ∷ []) ++ last_of_kind (reverse next))
    (any-reverse (λ (y : Timed). kind_eq x.event.kind y.event.kind) next)

-- one more event is moved
pub moved_back : (out start next : List Timed) (events : List Timed) (x : Timed) → events ≡ next ++ x ∷ [] →
    out ++ last_of_kind (reverse events) ≡ start → (out ++ unless_later x next) ++ last_of_kind (reverse next)
    ≡ start
moved_back out start next events x e h = append_assoc out (unless_later x next) (last_of_kind (reverse next))
    ∙ ap (λ l. out ++ l) (sym (last_of_back events next x e)) ∙ h
