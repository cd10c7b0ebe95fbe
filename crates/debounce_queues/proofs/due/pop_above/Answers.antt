-- The last event is taken out, and the first ones stay.
use Rattle.std.proofs.Common.{◌≡◌, ◌∙◌, ℕ, ◌+◌, ◌<◌, ◌≤◌, List, [], ◌∷◌, ◌++◌, Option, None, Some, IfSome, ap, append-nil, arith, drop, length, sym, take}
use Rattle.std.proofs.lemmas.List.{drop-append-le, length-append, take-append-le}
use Rattle.std.specs.Option.{option_to_list}
use Rattle.debounce_queues.proofs.due.pop_above.Goals as goal

module _ {X : Type 0} (left : ℕ) (xs ys : List X) (above : left < length xs) where
  -- what is left is at least so long
  long : (r : Option X) → xs ≡ ys ++ option_to_list r → left ≤ length ys
  long None is = omega (arith, ap length is, ap length (append-nil ys))
  long (Some x) is = omega (arith, ap length is, length-append ys (x ∷ []))

  -- the last one is taken from behind
  last : (r : Option X) → xs ≡ ys ++ option_to_list r → IfSome r (λ x. drop left xs ≡ drop left ys ++ x ∷ [])
  last None is = tt
  last (Some x) is = ap (drop left) is ∙ drop-append-le left ys (x ∷ []) (long (Some x) is)

  -- .. so there is one fewer
  fewer : (r : Option X) → xs ≡ ys ++ option_to_list r → IfSome r (λ x. length ys < length xs)
  fewer None is = tt
  fewer (Some x) is = omega (arith, ap length is, length-append ys (x ∷ []))

  -- the first ones are as they were
  front : (r : Option X) → xs ≡ ys ++ option_to_list r → take left ys ≡ take left xs
  front r is = sym (ap (take left) is ∙ take-append-le left ys (option_to_list r) (long r is))

pub returns-clause-some : goal.returns-clause-some
returns-clause-some g c = last c.args.left _ _ (omega arith) _ c.pop.ensures.items

pub returns-clause-fewer : goal.returns-clause-fewer
returns-clause-fewer g c = fewer c.args.left _ _ (omega arith) _ c.pop.ensures.items

pub returns-clause-kept : goal.returns-clause-kept
returns-clause-kept g c = front c.args.left _ _ (omega arith) _ c.pop.ensures.items

pub returns-clause-bound : goal.returns-clause-bound
returns-clause-bound g c = λ h. long c.args.left _ _ (omega arith) _ c.pop.ensures.items
