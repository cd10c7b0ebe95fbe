-- Calls of a handler, one after the other. Proofs about a watcher's work may cite these.
use Rattle.std.proofs.Common.{refl, subst, List, [], ◌∷◌, ◌++◌}
use Rattle.notify_watch.specs.Handler.{IsCalledOn, IsCalledWith}

-- no call
pub called-none : {H X : Type 0} (handles : H → X → H → Type 0) (h : H) → IsCalledOn handles h h
called-none handles h = ([], refl)

-- one call
pub called-once : {H X : Type 0} (handles : H → X → H → Type 0) (x : X) (before after : H) → handles before x after →
    IsCalledOn handles before after
called-once handles x before after handled = (x ∷ [], (after, handled, refl))

-- calls after calls
called-append : {H X : Type 0} (handles : H → X → H → Type 0) (xs ys : List X) (before between after : H) →
    IsCalledWith handles xs before between → IsCalledWith handles ys between after →
    IsCalledWith handles (xs ++ ys) before after
called-append handles [] ys before between after first more =
    subst (λ h. IsCalledWith handles ys h after) first more
called-append handles (x ∷ xs) ys before between after first more =
    (first.0, first.1, called-append handles xs ys first.0 between after first.2 more)

-- .. are calls
pub called-then : {H X : Type 0} (handles : H → X → H → Type 0) (before between after : H) →
    IsCalledOn handles before between → IsCalledOn handles between after → IsCalledOn handles before after
called-then handles before between after first more =
    (first.0 ++ more.0, called-append handles first.0 more.0 before between after first.1 more.1)
