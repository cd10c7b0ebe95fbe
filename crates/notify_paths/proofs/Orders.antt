-- The order of two paths, by the first bytes of their texts that differ.
use Rattle.std.proofs.Common.{◌≡◌, ℕ, ◌+◌, ◌-◌, ◌<◌, Bool, true, false, ◌||◌, cond, List, [], ◌∷◌, ◌++◌, length, get_or, take, drop, take-append-drop, take_all, length-drop, refl, sym, ◌∙◌, ap, ap₂, subst, arith, Option, None, Some, IfSome, nat_lt, nat_cmp}
use Rattle.std.proofs.lemmas.Bool.{false≢true, true≢false, and_parts, or_from, cond-true, cond-false, cond_both, ne_eqb, eq-eqb, eqb-true, lt-ltb}
use Rattle.std.proofs.lemmas.Cmp.{nat_cmp_total}
use Rattle.std.specs.declared.cmp.Ordering.{Ordering}
use Rattle.std.specs.declared.cmp.Ordering.TheVariants.{Less, Equal, Greater}
use Rattle.std.specs.Ordering.{is_eq, ordering_then, ordering_reverse}
use Rattle.std.specs.Cmp.{unsigned_tied}
use Rattle.std.specs.Cmp.Lexicographic.{slice_cmp}
use Rattle.std.specs.Path.{slash, dot, cur_dir, parent_dir, has_no_slash}
use Rattle.std.specs.Str.{bytes_eq}
use Rattle.notify_paths.specs.Path.{PartValue, RootPart, CurPart, ParentPart, NamePart, PathValue, part_cmp, part_eq, path_cmp}
use Rattle.notify_paths.specs.PathLaws.{part_eq_decides}
use Rattle.notify_paths.specs.TextSteps.{is_dots, text_rank, order_at, order_text}
use Rattle.notify_paths.specs.PathText.{parts_of, part_text, wants_slash, text_after, text_of, is_proper_name, is_inner, all_inner, IsPath, IsNormal}
use Rattle.notify_paths.proofs.Texts.{proper_facts, name_facts, no_slash_parts, inner_parts, inner_wants, inner_path, parts_of_is_path}
use lib.Dec.{eqb}

-- the answer, if there is one, is o
abbrev pub Says : Option Ordering → Ordering → Type 0
Says answer o = IfSome answer (λ r. r ≡ o)

-- what stands behind a part: nothing, or a slash and more
abbrev pub tail : Option (List ℕ) → List ℕ
tail None = []
tail (Some rest) = slash ∷ rest

-- .. as a path has it
abbrev pub tail_of : PathValue → Option (List ℕ)
tail_of [] = None
tail_of (part ∷ parts) = Some (part_text part ++ text_after (wants_slash part) parts)

pub tail_is : (p : PathValue) → text_after true p ≡ tail (tail_of p)
tail_is [] = refl
tail_is (x ∷ p) = refl

-- any part but the root
abbrev pub is_plain : PartValue → Bool
is_plain RootPart = false
is_plain CurPart = true
is_plain ParentPart = true
is_plain (NamePart bytes) = is_proper_name bytes

pub plain_inner : (x : PartValue) → is_inner x ≡ true → is_plain x ≡ true
plain_inner RootPart h = h
plain_inner CurPart h = refl
plain_inner ParentPart h = refl
plain_inner (NamePart b) h = h

-- no slash, the other way round
pub not_slash : (x : ℕ) → eqb x slash ≡ false → eqb slash x ≡ false
not_slash x e = ne_eqb slash x (λ q. false≢true (sym e ∙ eq-eqb x slash (sym q)))

cmp_less : (m n : ℕ) → m < n → nat_cmp m n ≡ Less
cmp_less m n h = cond-true (nat_lt m n) _ _ (lt-ltb m n h)

cmp_greater : (m n : ℕ) → n < m → nat_cmp m n ≡ Greater
cmp_greater m n h = nat_cmp_total.antisymm m n ∙ ap ordering_reverse (cmp_less n m h)

-- adding one changes no order
cmp_suc : (m n : ℕ) → nat_cmp (m + 1) (n + 1) ≡ nat_cmp m n
cmp_suc m n = grind arith

-- .. nor does the rank, apart from slashes
rank_cmp : (x y : ℕ) → eqb x slash ≡ false → eqb y slash ≡ false → nat_cmp (text_rank x) (text_rank y)
    ≡ nat_cmp x y
rank_cmp x y h k = ap₂ nat_cmp (cond-false (eqb x slash) _ _ h) (cond-false (eqb y slash) _ _ k) ∙ cmp_suc x y

pub then_unequal : (o p : Ordering) → is_eq o ≡ false → ordering_then o p ≡ o
then_unequal Less p h = refl
then_unequal Equal p h = absurd (true≢false h)
then_unequal Greater p h = refl

pub is_equal : (o : Ordering) → is_eq o ≡ true → o ≡ Equal
is_equal Less h = absurd (false≢true h)
is_equal Equal h = refl
is_equal Greater h = absurd (false≢true h)

-- a slash stands before each other byte
slash_first : (xs ys : List ℕ) (y : ℕ) → eqb y slash ≡ false → Says (order_text (slash ∷ xs) (y ∷ ys)) Less
slash_first xs ys y e =
    cond_both (eqb slash y) _ _ (λ r. Says r Less) (λ t. absurd (true≢false (sym t ∙ not_slash y e)))
    (λ _. cond_both (is_dots (slash ∷ xs) || is_dots (y ∷ ys)) None _ (λ r. Says r Less) (λ _. tt)
    (λ _. ap (nat_cmp 0) (cond-false (eqb y slash) _ _ e) ∙ cmp_less 0 (y + 1) (omega arith)))

-- where one may stand in dots, there is no answer
dots_left : (a b : List ℕ) (o : Ordering) → is_dots a ≡ true → Says (order_at a b) o
dots_left a b o h = rw h tt

-- the same in both, in front
pub same_front : (t r s : List ℕ) → order_text (t ++ r) (t ++ s) ≡ order_text r s
same_front [] r s = refl
same_front (x ∷ t) r s = cond-true (eqb x x) _ _ (eq-eqb x x refl) ∙ same_front t r s

-- both answers, the other way round
at_back : (s t : Bool) (o w : Ordering) (u : Ordering) → u ≡ ordering_reverse o →
    Says (cond (s || t) None (Some o)) w → Says (cond (t || s) None (Some u)) (ordering_reverse w)
at_back true true o w u q h = tt
at_back true false o w u q h = tt
at_back false true o w u q h = tt
at_back false false o w u q h = q ∙ ap ordering_reverse h

pub back : (xs ys : List ℕ) (w : Ordering) → Says (order_text xs ys) w →
    Says (order_text ys xs) (ordering_reverse w)
back [] [] w h = ap ordering_reverse h
back [] (y ∷ ys) w h = ap ordering_reverse h
back (x ∷ xs) [] w h = ap ordering_reverse h
back (x ∷ xs) (y ∷ ys) w h = by (eqb x y) refl (back xs ys w)
  where
    by : (t : Bool) → eqb x y ≡ t → (Says (order_text xs ys) w → Says (order_text ys xs) (ordering_reverse w)) →
        Says (order_text (y ∷ ys) (x ∷ xs)) (ordering_reverse w)
    by true e more = rw (eq-eqb y x (sym (eqb-true x y e))) (more (rw e at h))
    by false e more =
        rw (ne_eqb y x (λ q. false≢true (sym e ∙ eq-eqb x y (sym q))))
        (at_back (is_dots (x ∷ xs)) (is_dots (y ∷ ys)) _ w _
        (nat_cmp_total.antisymm (text_rank y) (text_rank x)) (rw e at h))

-- two names
names : (a b : List ℕ) (r s : Option (List ℕ)) → has_no_slash a ≡ true → has_no_slash b ≡ true → (a ≡ b → ⊥) →
    Says (order_text (a ++ tail r) (b ++ tail s)) (slice_cmp nat_cmp a b)
names [] [] r s h k n = absurd (n refl)
names [] (y ∷ b) None s h k n = refl
names [] (y ∷ b) (Some r) s h k n = slash_first r (b ++ tail s) y (no_slash_parts y b k).0
names (x ∷ a) [] r None h k n = refl
names (x ∷ a) [] r (Some s) h k n =
    back (slash ∷ s) ((x ∷ a) ++ tail r) Less (slash_first s (a ++ tail r) x (no_slash_parts x a h).0)
names (x ∷ a) (y ∷ b) r s h k n =
    let one = no_slash_parts x a h in
    let two = no_slash_parts y b k in
    cond_both (eqb x y) _ _ (λ o. Says o (slice_cmp nat_cmp (x ∷ a) (y ∷ b)))
    (λ e. let q = eqb-true x y e in
    rw (is_equal (nat_cmp x y) (unsigned_tied x y ∙ e))
    (names a b r s one.1 two.1 (λ f. n (ap₂ (λ u v. u ∷ v) q f))))
    (λ e. cond_both (is_dots ((x ∷ a) ++ tail r) || is_dots ((y ∷ b) ++ tail s)) None
    _ (λ o. Says o (slice_cmp nat_cmp (x ∷ a) (y ∷ b))) (λ _. tt)
    (λ _. rank_cmp x y one.0 two.0 ∙ sym (then_unequal (nat_cmp x y) _ (unsigned_tied x y ∙ e))))

-- `..` stands before each name
parent_dots : (r : Option (List ℕ)) → is_dots (dot ∷ dot ∷ tail r) ≡ true
parent_dots None = refl
parent_dots (Some r) = refl

cur_dots : (r : Option (List ℕ)) → is_dots (dot ∷ tail r) ≡ true
cur_dots None = refl
cur_dots (Some r) = refl

-- a part that ends stands before one that goes on
ends_first : (r : Option (List ℕ)) (y : ℕ) (ys : List ℕ) → eqb y slash ≡ false →
    Says (order_text (tail r) (y ∷ ys)) Less
ends_first None y ys e = refl
ends_first (Some r) y ys e = slash_first r ys y e

-- a name is not dots
not_cur : (c : ℕ) → is_proper_name (c ∷ []) ≡ true → eqb dot c ≡ true → ⊥
not_cur c h e = false≢true (sym (name_facts (c ∷ []) (proper_facts (c ∷ []) h).0).1
    ∙ ap (λ b. bytes_eq (b ∷ []) cur_dir) (sym (eqb-true dot c e)))

not_parent : (c d : ℕ) → is_proper_name (c ∷ d ∷ []) ≡ true → eqb dot c ≡ true → eqb dot d ≡ true → ⊥
not_parent c d h e f =
    false≢true (sym (proper_facts (c ∷ d ∷ []) h).1
    ∙ ap₂ (λ a b. bytes_eq (a ∷ b ∷ []) parent_dir) (sym (eqb-true dot c e)) (sym (eqb-true dot d f)))

parent_name : (b : List ℕ) (r s : Option (List ℕ)) → is_proper_name b ≡ true →
    Says (order_text (dot ∷ dot ∷ tail r) (b ++ tail s)) Less
parent_name [] r s h = absurd (false≢true h)
parent_name (c ∷ []) r s h =
    cond_both (eqb dot c) _ _ (λ o. Says o Less) (λ e. absurd (not_cur c h e))
    (λ _. dots_left (dot ∷ dot ∷ tail r) (c ∷ tail s) Less (parent_dots r))
parent_name (c ∷ d ∷ []) r s h =
    cond_both (eqb dot c) _ _ (λ o. Says o Less)
    (λ e. cond_both (eqb dot d) _ _ (λ o. Says o Less) (λ f. absurd (not_parent c d h e f))
    (λ _. dots_left (dot ∷ tail r) (d ∷ tail s) Less (cur_dots r)))
    (λ _. dots_left (dot ∷ dot ∷ tail r) (c ∷ d ∷ tail s) Less (parent_dots r))
parent_name (c ∷ d ∷ x ∷ b) r s h =
    let one = no_slash_parts c (d ∷ x ∷ b) (proper_facts (c ∷ d ∷ x ∷ b) h).2 in
    let two = no_slash_parts d (x ∷ b) one.1 in
    cond_both (eqb dot c) _ _ (λ o. Says o Less)
    (λ e. cond_both (eqb dot d) _ _ (λ o. Says o Less) (λ f. ends_first r x (b ++ tail s)
    (no_slash_parts x b two.1).0) (λ _. dots_left (dot ∷ tail r) (d ∷ x ∷ b ++ tail s) Less (cur_dots r)))
    (λ _. dots_left (dot ∷ dot ∷ tail r) (c ∷ d ∷ x ∷ b ++ tail s) Less (parent_dots r))

cur_name : (b : List ℕ) (r s : Option (List ℕ)) → is_proper_name b ≡ true →
    Says (order_text (dot ∷ tail r) (b ++ tail s)) Less
cur_name [] r s h = absurd (false≢true h)
cur_name (c ∷ []) r s h =
    cond_both (eqb dot c) _ _ (λ o. Says o Less) (λ e. absurd (not_cur c h e)) (λ _. dots_left (dot ∷ tail r)
    (c ∷ tail s) Less (cur_dots r))
cur_name (c ∷ d ∷ b) r s h =
    let one = no_slash_parts c (d ∷ b) (proper_facts (c ∷ d ∷ b) h).2 in
    cond_both (eqb dot c) _ _ (λ o. Says o Less)
    (λ e. ends_first r d (b ++ tail s) (no_slash_parts d b one.1).0)
    (λ _. dots_left (dot ∷ tail r) (c ∷ d ∷ b ++ tail s) Less (cur_dots r))

-- two parts that are not the same
distinct : (x y : PartValue) (r s : Option (List ℕ)) → is_plain x ≡ true → is_plain y ≡ true → (x ≡ y → ⊥) →
    Says (order_text (part_text x ++ tail r) (part_text y ++ tail s)) (part_cmp x y)
distinct RootPart y r s h k n = absurd (false≢true h)
distinct CurPart RootPart r s h k n = absurd (false≢true k)
distinct ParentPart RootPart r s h k n = absurd (false≢true k)
distinct (NamePart a) RootPart r s h k n = absurd (false≢true k)
distinct CurPart CurPart r s h k n = absurd (n refl)
distinct CurPart ParentPart r s h k n = ends_first r dot (tail s) refl
distinct CurPart (NamePart b) r s h k n = cur_name b r s k
distinct ParentPart CurPart r s h k n =
    back (dot ∷ tail s) (dot ∷ dot ∷ tail r) Less (ends_first s dot (tail r) refl)
distinct ParentPart ParentPart r s h k n = absurd (n refl)
distinct ParentPart (NamePart b) r s h k n = parent_name b r s k
distinct (NamePart a) CurPart r s h k n = back (dot ∷ tail s) (a ++ tail r) Less (cur_name a s r h)
distinct (NamePart a) ParentPart r s h k n = back (dot ∷ dot ∷ tail s) (a ++ tail r) Less (parent_name a s r h)
distinct (NamePart a) (NamePart b) r s h k n =
    names a b r s (proper_facts a h).2 (proper_facts b k).2 (λ e. n (ap NamePart e))

-- paths that begin with no root, where what stands behind their first parts is ordered
plain : (x y : PartValue) (p q : PathValue) → is_plain x ≡ true → is_plain y ≡ true →
    Says (order_text (text_after true p) (text_after true q)) (path_cmp p q)
    → Says (order_text (part_text x ++ text_after true p) (part_text y ++ text_after true q))
    (path_cmp (x ∷ p) (y ∷ q))
plain x y p q h k more = by (part_eq x y) refl
  where
    by : (t : Bool) → part_eq x y ≡ t →
        Says (order_text (part_text x ++ text_after true p) (part_text y ++ text_after true q))
        (path_cmp (x ∷ p) (y ∷ q))
    by true e = rw (
      is_equal (part_cmp x y) e,
      ← (part_eq_decides x y).0 e,
      same_front (part_text x) (text_after true p) (text_after true q),
    ) more
    by false e =
        rw (then_unequal (part_cmp x y) (path_cmp p q) e, tail_is p, tail_is q)
        (distinct x y (tail_of p) (tail_of q) h k (λ g. false≢true (sym e ∙ (part_eq_decides x y).1 g)))

-- behind equal parts
after : (p q : PathValue) → all_inner p ≡ true → all_inner q ≡ true →
    Says (order_text (text_after true p) (text_after true q)) (path_cmp p q)
after [] [] h k = refl
after [] (y ∷ q) h k = refl
after (x ∷ p) [] h k = refl
after (x ∷ p) (y ∷ q) h k =
    let one = inner_parts x p h in
    let two = inner_parts y q k in
    rw (inner_wants x one.0, inner_wants y two.0) (plain x y p q (plain_inner x one.0) (plain_inner y two.0)
    (after p q one.1 two.1))

-- the empty path stands first
empty_first : (y : PartValue) (q : PathValue) → IsPath (y ∷ q) → Says (order_text [] (text_of (y ∷ q))) Less
empty_first RootPart q h = refl
empty_first CurPart q h = refl
empty_first ParentPart q h = refl
empty_first (NamePart []) q h = absurd (false≢true h)
empty_first (NamePart (c ∷ b)) q h = refl

-- behind the root
inner : (p q : PathValue) → all_inner p ≡ true → all_inner q ≡ true →
    Says (order_text (text_of p) (text_of q)) (path_cmp p q)
inner [] [] h k = refl
inner [] (y ∷ q) h k = empty_first y q (inner_path (y ∷ q) k)
inner (x ∷ p) [] h k = back [] (text_of (x ∷ p)) Less (empty_first x p (inner_path (x ∷ p) h))
inner (x ∷ p) (y ∷ q) h k =
    let one = inner_parts x p h in
    let two = inner_parts y q k in
    rw (inner_wants x one.0, inner_wants y two.0) (plain x y p q (plain_inner x one.0) (plain_inner y two.0)
    (after p q one.1 two.1))

-- the root stands before each other part
root_first : (xs s : List ℕ) (y : PartValue) → is_plain y ≡ true →
    Says (order_text (slash ∷ xs) (part_text y ++ s)) Less
root_first xs s RootPart h = absurd (false≢true h)
root_first xs s CurPart h = slash_first xs s dot refl
root_first xs s ParentPart h = slash_first xs (dot ∷ s) dot refl
root_first xs s (NamePart []) h = absurd (false≢true h)
root_first xs s (NamePart (c ∷ b)) h =
    slash_first xs (b ++ s) c (no_slash_parts c b (proper_facts (c ∷ b) h).2).0

-- the order of paths, by their texts
pub order_is : (p q : PathValue) → IsPath p → IsPath q →
    Says (order_text (text_of p) (text_of q)) (path_cmp p q)
order_is [] [] h k = refl
order_is [] (y ∷ q) h k = empty_first y q k
order_is (x ∷ p) [] h k = back [] (text_of (x ∷ p)) Less (empty_first x p h)
order_is (RootPart ∷ p) (RootPart ∷ q) h k = inner p q h k
order_is (RootPart ∷ p) (CurPart ∷ q) h k = root_first (text_after false p) (text_after true q) CurPart refl
order_is (RootPart ∷ p) (ParentPart ∷ q) h k =
    root_first (text_after false p) (text_after true q) ParentPart refl
order_is (RootPart ∷ p) (NamePart b ∷ q) h k =
    root_first (text_after false p) (text_after true q) (NamePart b)
    (and_parts (is_proper_name b) (all_inner q) k).0
order_is (CurPart ∷ p) (RootPart ∷ q) h k =
    back (slash ∷ text_after false q) (text_of (CurPart ∷ p)) Less
    (root_first (text_after false q) (text_after true p) CurPart refl)
order_is (ParentPart ∷ p) (RootPart ∷ q) h k =
    back (slash ∷ text_after false q) (text_of (ParentPart ∷ p)) Less
    (root_first (text_after false q) (text_after true p) ParentPart refl)
order_is (NamePart a ∷ p) (RootPart ∷ q) h k =
    back (slash ∷ text_after false q) (text_of (NamePart a ∷ p)) Less
    (root_first (text_after false q) (text_after true p) (NamePart a)
    (and_parts (is_proper_name a) (all_inner p) h).0)
order_is (CurPart ∷ p) (CurPart ∷ q) h k = plain CurPart CurPart p q refl refl (after p q h k)
order_is (CurPart ∷ p) (ParentPart ∷ q) h k = plain CurPart ParentPart p q refl refl (after p q h k)
order_is (CurPart ∷ p) (NamePart b ∷ q) h k = let two = and_parts (is_proper_name b) (all_inner q) k in
    plain CurPart (NamePart b) p q refl two.0 (after p q h two.1)
order_is (ParentPart ∷ p) (CurPart ∷ q) h k = plain ParentPart CurPart p q refl refl (after p q h k)
order_is (ParentPart ∷ p) (ParentPart ∷ q) h k = plain ParentPart ParentPart p q refl refl (after p q h k)
order_is (ParentPart ∷ p) (NamePart b ∷ q) h k = let two = and_parts (is_proper_name b) (all_inner q) k in
    plain ParentPart (NamePart b) p q refl two.0 (after p q h two.1)
order_is (NamePart a ∷ p) (CurPart ∷ q) h k = let one = and_parts (is_proper_name a) (all_inner p) h in
    plain (NamePart a) CurPart p q one.0 refl (after p q one.1 k)
order_is (NamePart a ∷ p) (ParentPart ∷ q) h k = let one = and_parts (is_proper_name a) (all_inner p) h in
    plain (NamePart a) ParentPart p q one.0 refl (after p q one.1 k)
order_is (NamePart a ∷ p) (NamePart b ∷ q) h k =
    let one = and_parts (is_proper_name a) (all_inner p) h in
    let two = and_parts (is_proper_name b) (all_inner q) k in
    plain (NamePart a) (NamePart b) p q one.0 two.0 (after p q one.1 two.1)

-- equal bytes in front say nothing of the order
pub skip_same : (a b : List ℕ) (i : ℕ) → take i a ≡ take i b → order_text a b ≡ order_text (drop i a) (drop i b)
skip_same a b i h =
    ap₂ order_text (sym (take-append-drop i a)) (sym (take-append-drop i b) ∙ ap (λ t. t ++ drop i b) (sym h))
    ∙ same_front (take i a) (drop i a) (drop i b)

-- the rest of a text, as a slice has it
pub rest_is : (a : List ℕ) (i : ℕ) → take (length a - i) (drop i a) ≡ drop i a
rest_is a i = take_all (length a - i) (drop i a) (rw (length-drop i a) (omega arith))

-- where one of the texts is at its end
pub order_short : (a b : List ℕ) → (eqb (length a) 0 || eqb (length b) 0) ≡ true →
    order_text a b ≡ Some (nat_cmp (length a) (length b))
order_short [] [] h = refl
order_short [] (y ∷ b) h = ap Some (sym (cmp_less 0 (length (y ∷ b)) (omega arith)))
order_short (x ∷ a) [] h = ap Some (sym (cmp_greater (length (x ∷ a)) 0 (omega arith)))
order_short (x ∷ a) (y ∷ b) h =
    absurd (false≢true
    (sym (or_from (eqb (length (x ∷ a)) 0) (eqb (length (y ∷ b)) 0)
    (ne_eqb (length (x ∷ a)) 0 (λ q. omega (arith, q))) (ne_eqb (length (y ∷ b)) 0 (λ q. omega (arith, q))))
    ∙ h))

-- where the first bytes differ
pub order_differs : (a b : List ℕ) → 0 < length a → 0 < length b → (get_or a 0 0 ≡ get_or b 0 0 → ⊥) →
    order_text a b ≡ order_at a b
order_differs [] b h k n = absurd (omega arith)
order_differs (x ∷ a) [] h k n = absurd (omega arith)
order_differs (x ∷ a) (y ∷ b) h k n = cond-false (eqb x y) _ _ (ne_eqb x y n)

-- where the first bytes differ, and one text may stand in dots
pub order_dots : (a b : List ℕ) → 0 < length a → 0 < length b → (get_or a 0 0 ≡ get_or b 0 0 → ⊥) →
    (is_dots a || is_dots b) ≡ true → order_text a b ≡ None
order_dots a b h k n e = order_differs a b h k n ∙ cond-true (is_dots a || is_dots b) _ _ e

-- what the texts say of the paths
pub order_says : (a b : List ℕ) (o : Ordering) → IsNormal a → IsNormal b → Some o ≡ order_text a b →
    o ≡ path_cmp (parts_of a) (parts_of b)
order_says a b o h k e =
    let says : Says (order_text a b) (path_cmp (parts_of a) (parts_of b)) =
    subst (λ t. Says (order_text t b) (path_cmp (parts_of a) (parts_of b))) h
    (subst (λ t. Says (order_text (text_of (parts_of a)) t) (path_cmp (parts_of a) (parts_of b))) k
    (order_is (parts_of a) (parts_of b) (parts_of_is_path a) (parts_of_is_path b))) in
    subst (λ r. Says r (path_cmp (parts_of a) (parts_of b))) (sym e) says
