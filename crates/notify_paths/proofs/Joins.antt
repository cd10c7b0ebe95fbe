-- The text of a path that is made from two.
use Rattle.std.proofs.Common.{◌≡◌, ◌≢◌, ℕ, zero, suc, ◌<◌, ◌≤◌, Bool, true, false, not, ⊎_elim, List, [], ◌∷◌, ◌++◌, ◌-◌, length, drop, take, take_all, length-append, refl, sym, ◌∙◌, ap, ap₂, subst, arith, nat_eq, map, eqb, Some}
use Rattle.std.proofs.lemmas.Bool.{false≢true, and_parts, and_right, cond-true, cond-false, ne_eqb, eqb-true}
use Rattle.std.specs.List.{starts_with}
use Rattle.std.specs.Path.{slash}
use Rattle.notify_paths.specs.Path.{PartValue, RootPart, CurPart, ParentPart, NamePart, PathValue, part_eq, is_prefix}
use Rattle.notify_paths.specs.PathLaws.{part_eq_decides}
use Rattle.notify_paths.specs.PathMoves.{relocated, child_of, first_parts, folders_above}
use Rattle.notify_paths.specs.TextSteps.{needs_slash, joined, without_slash, text_past}
use Rattle.notify_paths.specs.PathText.{parts_of, part_of, part_text, wants_slash, slash_if, text_after, text_of, is_proper_name, all_inner, IsPath, IsNormal}
use Rattle.notify_paths.proofs.Begins.{plain_front, begins_says, head, long}
use Rattle.notify_paths.proofs.Orders.{plain_inner}
use Rattle.notify_paths.proofs.Texts.{inner_parts, inner_wants, inner_path, parts_of_is_path, text_again}
use mathlib.Core.List.{append-nil, append_assoc}

-- whether a slash stands behind these parts
abbrev slashed_by : Bool → PathValue → Bool
slashed_by s [] = s
slashed_by s (x ∷ p) = slashed_by (wants_slash x) p

text-append : (s : Bool) (p r : PathValue) → text_after s (p ++ r) ≡ text_after s p
    ++ text_after (slashed_by s p) r
text-append s [] r = refl
text-append s (x ∷ p) r =
    ap (λ t. slash_if s ++ (part_text x ++ t)) (text-append (wants_slash x) p r)
    ∙ ap (λ t. slash_if s
    ++ t) (sym (append_assoc (part_text x) (text_after (wants_slash x) p)
    (text_after (slashed_by (wants_slash x) p) r)))
    ∙ sym (append_assoc (slash_if s) (part_text x ++ text_after (wants_slash x) p)
    (text_after (slashed_by (wants_slash x) p) r))

inner_slashed : (p : PathValue) → all_inner p ≡ true → slashed_by true p ≡ true
inner_slashed [] h = refl
inner_slashed (x ∷ p) h = let two = inner_parts x p h in rw (inner_wants x two.0) (inner_slashed p two.1)

root_needs : (p : PathValue) → all_inner p ≡ true → needs_slash (text_of (RootPart ∷ p))
    ≡ slashed_by false (RootPart ∷ p)
root_needs [] h = refl
root_needs (x ∷ p) h =
    let two = inner_parts x p h in
    let f = plain_front x (text_after (wants_slash x) p) (plain_inner x two.0) in
    rw (
      f.2,
      long slash f.0 f.1,
      ne_eqb (length (slash ∷ f.0 ∷ f.1)) 0 (λ q. omega (arith, q)),
      inner_wants x two.0,
      inner_slashed p two.1,
    ) refl

-- where a slash stands behind a path, by its text
needs : (p : PathValue) → IsPath p → needs_slash (text_of p) ≡ slashed_by false p
needs [] h = refl
needs (x ∷ p) h =
    ⊎_elim (λ r. subst (λ z. needs_slash (text_of (z ∷ p)) ≡ slashed_by false (z ∷ p)) (sym r.0)
    (root_needs p r.1))
    (λ e. let f = plain_front x (text_after (wants_slash x) p) e.0 in
    rw (
      f.2,
      ne_eqb (length (f.0 ∷ f.1)) 0 (λ q. omega (arith, q)),
      and_right (eqb (length (f.0 ∷ f.1)) 1) (eqb f.0 slash) f.3,
      e.2,
      inner_slashed p e.1,
    ) refl) (head x p h)

-- inner parts behind a path
pub joined_is : (p r : PathValue) → IsPath p → all_inner r ≡ true → joined (text_of p) (text_of r)
    ≡ text_of (p ++ r)
joined_is p [] h k = ap text_of (sym (append-nil p))
joined_is p (x ∷ r) h k =
    let f = plain_front x (text_after (wants_slash x) r) (plain_inner x (inner_parts x r k).0) in
    cond-false (eqb (length (text_of (x ∷ r))) 0) _ _ (ap (λ t. eqb (length t) 0) f.2
    ∙ ne_eqb (length (f.0 ∷ f.1)) 0 (λ q. omega (arith, q)))
    ∙ ap (λ b. text_of p ++ (slash_if b ++ text_of (x ∷ r))) (needs p h) ∙ sym (text-append false p (x ∷ r))

-- .. are a path
inner-append : (p r : PathValue) → all_inner p ≡ true → all_inner r ≡ true → all_inner (p ++ r) ≡ true
inner-append [] r h k = k
inner-append (x ∷ p) r h k = let two = inner_parts x p h in rw (two.0, inner-append p r two.1 k) refl

path-append : (p r : PathValue) → IsPath p → all_inner r ≡ true → IsPath (p ++ r)
path-append [] r h k = inner_path r k
path-append (RootPart ∷ p) r h k = inner-append p r h k
path-append (CurPart ∷ p) r h k = inner-append p r h k
path-append (ParentPart ∷ p) r h k = inner-append p r h k
path-append (NamePart bytes ∷ p) r h k = let two = and_parts (is_proper_name bytes) (all_inner p) h in
    rw (two.0, inner-append p r two.1 k) refl

-- what stands behind the head stands inside
inner_tail : (x : PartValue) (p : PathValue) → IsPath (x ∷ p) → all_inner p ≡ true
inner_tail x p h = ⊎_elim (λ r. r.1) (λ e. e.1) (head x p h)

inner-drop : (n : ℕ) (p : PathValue) → all_inner p ≡ true → all_inner (drop n p) ≡ true
inner-drop zero p h = h
inner-drop (suc n) [] h = refl
inner-drop (suc n) (x ∷ p) h = inner-drop n p (inner_parts x p h).1

inner_rest : (n : ℕ) (p : PathValue) → 0 < n → IsPath p → all_inner (drop n p) ≡ true
inner_rest zero p h k = absurd (omega arith)
inner_rest (suc n) [] h k = refl
inner_rest (suc n) (x ∷ p) h k = inner-drop n p (inner_tail x p k)

-- a path is what it begins with, and the rest
pub prefix_whole : (p q : PathValue) → is_prefix p q ≡ true → p ++ drop (length p) q ≡ q
prefix_whole [] q h = refl
prefix_whole (x ∷ p) [] h = absurd (false≢true h)
prefix_whole (x ∷ p) (y ∷ q) h =
    let two = and_parts (part_eq x y) (is_prefix p q) h in
    ap₂ (λ a l. a ∷ l) ((part_eq_decides x y).0 two.0) (prefix_whole p q two.1)

drop-append : (a b : List ℕ) → drop (length a) (a ++ b) ≡ b
drop-append [] b = refl
drop-append (x ∷ a) b = drop-append a b

-- the text of inner parts, behind a slash or none
unslashed : (s : Bool) (r : PathValue) → all_inner r ≡ true → without_slash (text_after s r) ≡ text_of r
unslashed s [] h = refl
unslashed true (x ∷ r) h = refl
unslashed false (x ∷ r) h =
    let f = plain_front x (text_after (wants_slash x) r) (plain_inner x (inner_parts x r h).0) in
    rw f.2 (cond-false (eqb f.0 slash) _ _ f.3)

-- the text behind a path's first parts
rest_is : (p r : PathValue) → all_inner r ≡ true → text_past (text_of p) (text_of (p ++ r)) ≡ text_of r
rest_is p r h =
    ap (λ t. without_slash (drop (length (text_of p)) t)) (text-append false p r)
    ∙ ap without_slash (drop-append (text_of p) (text_after (slashed_by false p) r))
    ∙ unslashed (slashed_by false p) r h

-- .. where the texts are those of paths
pub rest_says : (base text : List ℕ) → IsNormal base → IsNormal text → 0 < length (parts_of base) →
    is_prefix (parts_of base) (parts_of text) ≡ true
    → text_past base text ≡ text_of (drop (length (parts_of base)) (parts_of text))
rest_says base text h k some below =
    let p = parts_of base in
    let q = parts_of text in
    ap₂ text_past (sym h) (sym k ∙ ap text_of (sym (prefix_whole p q below)))
    ∙ rest_is p (drop (length p) q) (inner_rest (length p) q some (parts_of_is_path text))

-- a base's text begins the text
pub base_begins : (base text : List ℕ) → IsNormal base → IsNormal text →
    is_prefix (parts_of base) (parts_of text) ≡ true → starts_with nat_eq text base ≡ true
base_begins base text h k below =
    (and_parts (starts_with nat_eq text base) _ (begins_says base text h k ∙ below)).0

-- a joined text is a path's
abbrev pub IsTextOf : List ℕ → PathValue → Type 0
IsTextOf text path = (parts_of text ≡ path) × IsNormal text

pub text_is : (text : List ℕ) (p : PathValue) → IsPath p → text ≡ text_of p → IsTextOf text p
text_is text p h e = let again : parts_of text ≡ p = ap parts_of e ∙ text_again p h in
    (again, ap text_of again ∙ sym e)

-- the same place below another path
pub placed : (from to text made : List ℕ) → IsNormal from → IsNormal to → IsNormal text →
    0 < length (parts_of from) → is_prefix (parts_of from) (parts_of text) ≡ true
    → made ≡ joined to (text_past from text) →
    IsTextOf made (relocated (parts_of from) (parts_of to) (parts_of text))
placed from to text made h i k some below e =
    let r = drop (length (parts_of from)) (parts_of text) in
    let inner = inner_rest (length (parts_of from)) (parts_of text) some (parts_of_is_path text) in
    text_is made (parts_of to ++ r) (path-append (parts_of to) r (parts_of_is_path to) inner)
    (e ∙ ap₂ joined (sym i) (rest_says from text h k some below)
    ∙ joined_is (parts_of to) r (parts_of_is_path to) inner)

-- one name more
pub named : (text name made : List ℕ) → IsNormal text → is_proper_name name ≡ true → made ≡ joined text name →
    IsTextOf made (parts_of text ++ NamePart name ∷ [])
named text name made h k e =
    let r = NamePart name ∷ [] in
    let inner : all_inner r ≡ true = rw k refl in
    text_is made (parts_of text ++ r) (path-append (parts_of text) r (parts_of_is_path text) inner)
    (e ∙ ap₂ joined (sym h) (sym (append-nil name)) ∙ joined_is (parts_of text) r (parts_of_is_path text) inner)

-- .. as `child` says it
pub child_named : (path : PathValue) (name : List ℕ) (made : PathValue) → is_proper_name name ≡ true →
    made ≡ path ++ NamePart name ∷ [] → Some made ≡ child_of path name
child_named path name made h e = ap Some e ∙ sym (cond-true (is_proper_name name) _ _ h)

-- a text with no first slash
pub no_slash_first : (text : List ℕ) → ((rest : List ℕ) → text ≢ slash ∷ rest) → text ≡ without_slash text
no_slash_first [] h = refl
no_slash_first (b ∷ rest) h =
    sym (cond-false (eqb b slash) _ _ (ne_eqb b slash (λ q. h rest (ap (λ n. n ∷ rest) q))))

-- a text that begins with the base does not lack it
pub lacks_none : (base text : List ℕ) → ((rest : List ℕ) → text ≢ base ++ rest) → starts_with nat_eq text base
    ≡ true → ⊥
lacks_none base text h e = h (drop (length base) text) (begun base text e)
  where
    begun : (base text : List ℕ) → starts_with nat_eq text base ≡ true → text ≡ base ++ drop (length base) text
    begun [] text e = refl
    begun (x ∷ base) [] e = absurd (false≢true e)
    begun (x ∷ base) (y ∷ text) e =
        let two = and_parts (eqb x y) (starts_with nat_eq text base) e in
        ap₂ (λ a l. a ∷ l) (sym (eqb-true x y two.0)) (begun base text two.1)

-- the first parts of a longer path
pub first-append : (n : ℕ) (p r : PathValue) → n ≤ length p → first_parts n (p ++ r) ≡ first_parts n p
first-append zero p r h = refl
first-append (suc n) p r h =
    ap₂ (λ a l. a ∷ l) (take-append (suc n) p r h) (first-append n p r (omega (arith, h)))
  where
    take-append : (n : ℕ) (p r : PathValue) → n ≤ length p → take n (p ++ r) ≡ take n p
    take-append zero p r h = refl
    take-append (suc n) [] r h = absurd (omega (arith, h))
    take-append (suc n) (x ∷ p) r h = ap (λ l. x ∷ l) (take-append n p r (omega (arith, h)))

-- one part more has one folder more above it
folders_more : (p : PathValue) (x : PartValue) → not (eqb (length p) 0) ≡ true → folders_above (p ++ x ∷ [])
    ≡ p ∷ folders_above p
folders_more [] x h = absurd (false≢true h)
folders_more (y ∷ p) x h =
    let long : length ((y ∷ p) ++ x ∷ []) - 1 ≡ length (y ∷ p) =
    rw (length-append (y ∷ p) (x ∷ [])) (omega arith) in
    let short : length (y ∷ p) - 1 ≡ length p = omega arith in
    ap (λ n. first_parts n ((y ∷ p) ++ x ∷ [])) long
    ∙ first-append (length (y ∷ p)) (y ∷ p) (x ∷ []) (omega arith)
    ∙ ap₂ (λ a n. a ∷ first_parts n (y ∷ p)) (take_all (length (y ∷ p)) (y ∷ p) (omega arith)) (sym short)

map-behind : (xs : List (List ℕ)) (x : List ℕ) → map part_of (xs ++ x ∷ []) ≡ map part_of xs ++ part_of x ∷ []
map-behind [] x = refl
map-behind (y ∷ xs) x = ap (λ l. part_of y ∷ l) (map-behind xs x)

-- .. as the components have it
pub folders_step : (all rest : List (List ℕ)) (last : List ℕ) (folder : PathValue) → all ≡ rest ++ last ∷ [] →
    folder ≡ map part_of rest → not (eqb (length folder) 0) ≡ true
    → folders_above (map part_of all) ≡ folder ∷ folders_above (map part_of rest)
folders_step all rest last folder e f h =
    ap (λ l. folders_above (map part_of l)) e ∙ ap folders_above (map-behind rest last)
    ∙ folders_more (map part_of rest) (part_of last) (subst (λ p. not (eqb (length p) 0) ≡ true) f h)
    ∙ ap (λ p. p ∷ folders_above (map part_of rest)) (sym f)
