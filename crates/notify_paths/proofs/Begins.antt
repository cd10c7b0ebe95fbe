-- Whether a path begins with another, by their texts.
use Rattle.std.proofs.Common.{◌≡◌, ℕ, Bool, true, false, ◌&&◌, ◌||◌, ◌⊎◌, inl, inr, ⊎_elim, List, [], ◌∷◌, ◌++◌, length, get_or, refl, sym, ◌∙◌, ap, ap₂, subst, arith, Option, None, Some, nat_eq}
use Rattle.std.proofs.lemmas.Bool.{false≢true, and_parts, and_left, and_right, or_from, ne_eqb, eq-eqb, eqb-true}
use Rattle.std.specs.List.{starts_with}
use Rattle.std.specs.Path.{slash, dot, root_dir, has_no_slash}
use Rattle.notify_paths.specs.Path.{PartValue, RootPart, CurPart, ParentPart, NamePart, PathValue, part_eq, is_prefix}
use Rattle.notify_paths.specs.PathLaws.{part_eq_decides}
use Rattle.notify_paths.specs.TextSteps.{is_root, begins_with}
use Rattle.notify_paths.specs.PathText.{parts_of, part_of, part_text, wants_slash, text_after, text_of, is_proper_name, all_inner, IsPath, IsNormal}
use Rattle.notify_paths.proofs.Texts.{proper_facts, no_slash_parts, inner_parts, inner_wants, part_of-name, parts_of_is_path}
use Rattle.notify_paths.proofs.Orders.{tail, tail_of, tail_is, is_plain, plain_inner, not_slash}
use lib.Dec.{eqb}

-- the text begins with the base, and a slash or the end follows
abbrev below : List ℕ → List ℕ → Bool
below [] [] = true
below [] (y ∷ ys) = eqb y slash
below (x ∷ xs) [] = false
below (x ∷ xs) (y ∷ ys) = eqb x y && below xs ys

-- .. as the code tests it
below_is : (base text : List ℕ) →
    below base text ≡ (starts_with nat_eq text base && eqb (get_or text (length base) slash) slash)
below_is [] [] = refl
below_is [] (y ∷ ys) = refl
below_is (x ∷ xs) [] = refl
below_is (x ∷ xs) (y ∷ ys) = by (eqb x y) (below_is xs ys)
  where
    by : (t : Bool) → below xs ys ≡ (starts_with nat_eq ys xs && eqb (get_or ys (length xs) slash) slash) →
        (t && below xs ys) ≡ ((t && starts_with nat_eq ys xs) && eqb (get_or ys (length xs) slash) slash)
    by true e = e
    by false e = refl

-- the same in both, in front
same_below : (t r s : List ℕ) → below (t ++ r) (t ++ s) ≡ below r s
same_below [] r s = refl
same_below (x ∷ t) r s = ap (λ b. b && below (t ++ r) (t ++ s)) (eq-eqb x x refl) ∙ same_below t r s

-- texts of parts that are not the same
texts : (a b : List ℕ) (r s : Option (List ℕ)) → has_no_slash a ≡ true → has_no_slash b ≡ true → (a ≡ b → ⊥) →
    below (a ++ tail r) (b ++ tail s) ≡ false
texts [] [] r s h k n = absurd (n refl)
texts [] (y ∷ b) None s h k n = (no_slash_parts y b k).0
texts [] (y ∷ b) (Some r) s h k n = and_left (eqb slash y) _ (not_slash y (no_slash_parts y b k).0)
texts (x ∷ a) [] r None h k n = refl
texts (x ∷ a) [] r (Some s) h k n = and_left (eqb x slash) _ (no_slash_parts x a h).0
texts (x ∷ a) (y ∷ b) r s h k n =
    by (eqb x y) refl (λ q. texts a b r s (no_slash_parts x a h).1 (no_slash_parts y b k).1
    (λ f. n (ap₂ (λ u v. u ∷ v) q f)))
  where
    by : (t : Bool) → eqb x y ≡ t → (x ≡ y → below (a ++ tail r) (b ++ tail s) ≡ false) →
        (eqb x y && below (a ++ tail r) (b ++ tail s)) ≡ false
    by true e more = and_right (eqb x y) _ (more (eqb-true x y e))
    by false e more = and_left (eqb x y) _ e

-- a part but the root has no slash, and is what its text is read as
plain_slashless : (x : PartValue) → is_plain x ≡ true → has_no_slash (part_text x) ≡ true
plain_slashless RootPart h = absurd (false≢true h)
plain_slashless CurPart h = refl
plain_slashless ParentPart h = refl
plain_slashless (NamePart b) h = (proper_facts b h).2

plain_again : (x : PartValue) → is_plain x ≡ true → part_of (part_text x) ≡ x
plain_again RootPart h = absurd (false≢true h)
plain_again CurPart h = refl
plain_again ParentPart h = refl
plain_again (NamePart b) h = part_of-name b h

-- paths that begin with no root, where what stands behind their first parts is so
plain : (x y : PartValue) (p q : PathValue) → is_plain x ≡ true → is_plain y ≡ true →
    is_prefix p q ≡ below (text_after true p) (text_after true q)
    → is_prefix (x ∷ p) (y ∷ q) ≡ below (part_text x ++ text_after true p) (part_text y ++ text_after true q)
plain x y p q h k more = by (part_eq x y) refl
  where
    by : (t : Bool) → part_eq x y ≡ t → is_prefix (x ∷ p) (y ∷ q)
        ≡ below (part_text x ++ text_after true p) (part_text y ++ text_after true q)
    by true e = rw (
      e,
      ← (part_eq_decides x y).0 e,
      same_below (part_text x) (text_after true p) (text_after true q),
    ) more
    by false e =
        rw (e, tail_is p, tail_is q)
        (sym (texts (part_text x) (part_text y) (tail_of p) (tail_of q) (plain_slashless x h)
        (plain_slashless y k)
        (λ g. false≢true (sym e ∙ (part_eq_decides x y).1 (sym (plain_again x h) ∙ ap part_of g
        ∙ plain_again y k)))))

-- behind equal parts
after : (p q : PathValue) → all_inner p ≡ true → all_inner q ≡ true →
    is_prefix p q ≡ below (text_after true p) (text_after true q)
after [] [] h k = refl
after [] (y ∷ q) h k = refl
after (x ∷ p) [] h k = refl
after (x ∷ p) (y ∷ q) h k =
    let one = inner_parts x p h in
    let two = inner_parts y q k in
    rw (inner_wants x one.0, inner_wants y two.0) (plain x y p q (plain_inner x one.0) (plain_inner y two.0)
    (after p q one.1 two.1))

-- a part's text is not empty, and begins with no slash
pub plain_front : (x : PartValue) (r : List ℕ) → is_plain x ≡ true → (c : ℕ) × (cs : List ℕ)
    × (part_text x ++ r ≡ c ∷ cs) × (eqb c slash ≡ false)
plain_front RootPart r h = absurd (false≢true h)
plain_front CurPart r h = (dot, r, refl, refl)
plain_front ParentPart r h = (dot, dot ∷ r, refl, refl)
plain_front (NamePart []) r h = absurd (false≢true h)
plain_front (NamePart (c ∷ b)) r h = (c, b ++ r, refl, (no_slash_parts c b (proper_facts (c ∷ b) h).2).0)

-- behind the root, where the base has more
inner : (x : PartValue) (p q : PathValue) → all_inner (x ∷ p) ≡ true → all_inner q ≡ true → is_prefix (x ∷ p) q
    ≡ below (text_of (x ∷ p)) (text_of q)
inner x p [] h k =
    let one = inner_parts x p h in
    let f = plain_front x (text_after (wants_slash x) p) (plain_inner x one.0) in
    rw f.2 refl
inner x p (y ∷ q) h k =
    let one = inner_parts x p h in
    let two = inner_parts y q k in
    rw (inner_wants x one.0, inner_wants y two.0) (plain x y p q (plain_inner x one.0) (plain_inner y two.0)
    (after p q one.1 two.1))

-- the parts that can stand at the head
abbrev pub Head : PartValue → PathValue → Type 0
Head x p = (is_plain x ≡ true) × (all_inner p ≡ true) × (wants_slash x ≡ true) × (part_eq RootPart x ≡ false)
    × (part_eq x RootPart ≡ false)

pub head : (x : PartValue) (p : PathValue) → IsPath (x ∷ p) → ((x ≡ RootPart) × (all_inner p ≡ true)) ⊎ Head x p
head RootPart p h = inl (refl, h)
head CurPart p h = inr (refl, h, refl, refl, refl)
head ParentPart p h = inr (refl, h, refl, refl, refl)
head (NamePart b) p h = let two = and_parts (is_proper_name b) (all_inner p) h in
    inr (two.0, two.1, refl, refl, refl)

-- a base that is neither empty nor the root
many : (c : ℕ) (cs text : List ℕ) → is_root (c ∷ cs) ≡ false → below (c ∷ cs) text ≡ begins_with (c ∷ cs) text
many c cs text h =
    below_is (c ∷ cs) text
    ∙ ap (λ b. starts_with nat_eq text (c ∷ cs) && (b || eqb (get_or text (length (c ∷ cs)) slash) slash))
    (sym (or_from (eqb (length (c ∷ cs)) 0) (is_root (c ∷ cs))
    (ne_eqb (length (c ∷ cs)) 0 (λ q. omega (arith, q))) h))

pub long : (a b : ℕ) (cs : List ℕ) → is_root (a ∷ b ∷ cs) ≡ false
long a b cs =
    and_left (eqb (length (a ∷ b ∷ cs)) 1) (eqb a slash)
    (ne_eqb (length (a ∷ b ∷ cs)) 1 (λ q. omega (arith, q)))

-- below the root
root_below : (x : PartValue) (p q : PathValue) → all_inner (x ∷ p) ≡ true → IsPath q →
    is_prefix (RootPart ∷ x ∷ p) q ≡ below (text_of (RootPart ∷ x ∷ p)) (text_of q)
root_below x p [] h k = refl
root_below x p (y ∷ q) h k =
    ⊎_elim (λ r. subst (λ z. is_prefix (RootPart ∷ x ∷ p) (z ∷ q)
    ≡ below (text_of (RootPart ∷ x ∷ p)) (text_of (z ∷ q))) (sym r.0) (inner x p q h r.1))
    (λ e. let f = plain_front y (text_after true q) e.0 in
    rw (e.3, e.2, f.2, not_slash f.0 f.3) refl) (head y q k)

root_base : (p q : PathValue) → all_inner p ≡ true → IsPath q → is_prefix (RootPart ∷ p) q
    ≡ begins_with (text_of (RootPart ∷ p)) (text_of q)
root_base [] [] h k = refl
root_base [] (y ∷ q) h k =
    ⊎_elim (λ r. subst (λ z. is_prefix (RootPart ∷ []) (z ∷ q) ≡ begins_with root_dir (text_of (z ∷ q)))
    (sym r.0) refl)
    (λ e. let f = plain_front y (text_after true q) e.0 in
    rw (e.3, e.2, f.2, not_slash f.0 f.3) refl) (head y q k)
root_base (x ∷ p) q h k =
    let f = plain_front x (text_after (wants_slash x) p) (plain_inner x (inner_parts x p h).0) in
    root_below x p q h k ∙ many slash (text_of (x ∷ p)) (text_of q) (ap (λ t. is_root (slash ∷ t)) f.2
    ∙ long slash f.0 f.1)

plain_below : (x : PartValue) (p q : PathValue) → Head x p → IsPath q → is_prefix (x ∷ p) q
    ≡ below (text_of (x ∷ p)) (text_of q)
plain_below x p [] e k = let f = plain_front x (text_after true p) e.0 in rw (e.2, f.2) refl
plain_below x p (y ∷ q) e k =
    let f = plain_front x (text_after true p) e.0 in
    ⊎_elim (λ r. rw (r.0, e.4, e.2, f.2, f.3) refl)
    (λ g. rw (e.2, g.2) (plain x y p q e.0 g.0 (after p q e.1 g.1))) (head y q k)

plain_base : (x : PartValue) (p q : PathValue) → Head x p → IsPath q → is_prefix (x ∷ p) q
    ≡ begins_with (text_of (x ∷ p)) (text_of q)
plain_base x p q e k =
    let f = plain_front x (text_after true p) e.0 in
    let whole : text_of (x ∷ p) ≡ f.0 ∷ f.1 = ap (λ b. part_text x ++ text_after b p) e.2 ∙ f.2 in
    plain_below x p q e k ∙ ap (λ t. below t (text_of q)) whole
    ∙ many f.0 f.1 (text_of q) (and_right (eqb (length (f.0 ∷ f.1)) 1) (eqb f.0 slash) f.3)
    ∙ ap (λ t. begins_with t (text_of q)) (sym whole)

-- whether a path begins with another, by their texts
pub prefix_is : (p q : PathValue) → IsPath p → IsPath q → is_prefix p q ≡ begins_with (text_of p) (text_of q)
prefix_is [] q h k = refl
prefix_is (x ∷ p) q h k =
    ⊎_elim (λ r. subst (λ z. is_prefix (z ∷ p) q ≡ begins_with (text_of (z ∷ p)) (text_of q)) (sym r.0)
    (root_base p q r.1 k))
    (λ e. plain_base x p q e k) (head x p h)

-- what the texts say of the paths
pub begins_says : (base text : List ℕ) → IsNormal base → IsNormal text → begins_with base text
    ≡ is_prefix (parts_of base) (parts_of text)
begins_says base text h k =
    sym (prefix_is (parts_of base) (parts_of text) (parts_of_is_path base) (parts_of_is_path text)
    ∙ ap₂ begins_with h k)
