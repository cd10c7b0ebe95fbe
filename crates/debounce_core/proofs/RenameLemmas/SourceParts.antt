-- What waits at a source, by what its first two events are, as the code finds them.
use Rattle.std.proofs.Common.{◌≡◌, ◌-◌, ◌<◌, ◌≤◌, Bool, true, false, cond, List, [], ◌∷◌, refl, ap, sym, ◌∙◌, None, Some, subst, arith, length, take, drop, get_or, true≢false}
use Rattle.notify_types.specs.Event.{Timed}
use Rattle.notify_types.specs.Kinds.{is_removal}
use Rattle.notify_types.specs.declared.kind.EventKind.{EventKind}
use Rattle.notify_types.specs.declared.kind.EventKind.TheVariants as kind
use Rattle.debounce_model.specs.Queues.{removes}
use Rattle.debounce_model.specs.Rename.{first_both, is_both, is_both_kind, moving, staying, without_both}
use Rattle.debounce_model.specs.WellFormed.{HasNoBoth, IsBothInFront}
use Rattle.debounce_model.proofs.SourceLemmas.{cut, source_neither, source_none}

-- no event waits
pub none_there : (xs : List Timed) → length xs < 1 → (None ≡ first_both xs) × (xs ≡ without_both xs)
none_there [] h = (refl, refl)
none_there (x ∷ xs) h = absurd (omega (arith, h))

-- a removal removes
removal_removes : (k : EventKind) → is_removal k ≡ true → removes k ≡ true
removal_removes kind.Any h = cc
removal_removes (kind.Access k) h = cc
removal_removes (kind.Create k) h = cc
removal_removes (kind.Modify k) h = cc
removal_removes (kind.Remove k) h = refl
removal_removes kind.Other h = cc

-- before a joined rename a removal stays, and those behind both go along
parts_second : (x y : Timed) (zs : List Timed) → is_both x ≡ false → is_both y ≡ true → IsBothInFront (x ∷ y ∷ zs) →
    (Some y ≡ first_both (x ∷ y ∷ zs)) × (Some x ≡ staying (without_both (x ∷ y ∷ zs)))
    × (zs ≡ moving (without_both (x ∷ y ∷ zs)))
parts_second x y zs b d front = by (is_removal x.event.kind) refl front
  where
    by : (r : Bool) → is_removal x.event.kind ≡ r → HasNoBoth (cond r zs (y ∷ zs)) →
        (Some y ≡ first_both (x ∷ y ∷ zs)) × (Some x ≡ staying (without_both (x ∷ y ∷ zs)))
        × (zs ≡ moving (without_both (x ∷ y ∷ zs)))
    by true is k = rw (b, d) (rw (removal_removes x.event.kind is) (refl, refl, refl))
    by false is k = absurd (true≢false (sym d ∙ k.0))

module _ (xs : List Timed) (x : Timed) (some : 1 ≤ length xs) (at : x ≡ get_or xs 0 x) {k : EventKind}
    (kind_is : k ≡ x.event.kind) where
  abbrev rest : List Timed
  rest = take (length xs - 1) (drop 1 xs)

  whole : x ∷ rest ≡ xs
  whole = cut xs x some at

  -- the first stays, since it removes
  pub first_stays : {b : Bool} → b ≡ removes k → b ≡ true → (Some x ≡ staying xs) × (rest ≡ moving xs)
  first_stays is same =
      let e : removes x.event.kind ≡ true = sym (is ∙ ap removes kind_is) ∙ same in
      subst (λ (l : List Timed). (Some x ≡ staying l) × (rest ≡ moving l)) whole (rw e (refl, refl))

  module _ {b : Bool} (both : b ≡ is_both_kind k) where
    is : b ≡ is_both x
    is = both ∙ ap is_both_kind kind_is

    -- the first is a joined rename
    pub first_there : b ≡ true → (Some x ≡ first_both xs) × (rest ≡ without_both xs)
    first_there same =
        let e : is_both x ≡ true = sym is ∙ same in
        subst (λ (l : List Timed). (Some x ≡ first_both l) × (rest ≡ without_both l)) whole (rw e (refl, refl))

    -- the first is none, and the only one
    pub alone_there : b ≡ false → length rest < 1 → (None ≡ first_both xs) × (xs ≡ without_both xs)
    alone_there other short =
        source_none xs (subst (λ (l : List Timed). HasNoBoth l) whole (sym is ∙ other, empty rest short))
      where
        empty : (ys : List Timed) → length ys < 1 → HasNoBoth ys
        empty [] h = tt
        empty (y ∷ ys) h = absurd (omega (arith, h))

    module _ (front : IsBothInFront xs) (single : b ≡ false) (y : Timed) (more : 1 ≤ length rest)
        (next : y ≡ get_or rest 0 y)
        {j : EventKind} {d : Bool} (kind_of : j ≡ y.event.kind) (both_of : d ≡ is_both_kind j) where
      abbrev others : List Timed
      others = take (length rest - 1) (drop 1 rest)

      -- the second is a joined rename
      pub second_there : d ≡ true → (Some y ≡ first_both xs) × (Some x ≡ staying (without_both xs))
          × (others ≡ moving (without_both xs))
      second_there same =
          let all : x ∷ y ∷ others ≡ xs = ap (λ (r : List Timed). x ∷ r) (cut rest y more next) ∙ whole in
          subst (λ (l : List Timed). (Some y ≡ first_both l) × (Some x ≡ staying (without_both l))
          × (others ≡ moving (without_both l))) all
          (parts_second x y others (sym is ∙ single) (sym (ap is_both_kind kind_of) ∙ sym both_of ∙ same)
          (subst (λ (l : List Timed). IsBothInFront l) (sym all) front))

      -- neither of the two is one
      pub neither_there : d ≡ false → (None ≡ first_both xs) × (xs ≡ without_both xs)
      neither_there other =
          source_none xs (source_neither xs x y front some at more next (sym is ∙ single)
          (sym (ap is_both_kind kind_of) ∙ sym both_of ∙ other))
