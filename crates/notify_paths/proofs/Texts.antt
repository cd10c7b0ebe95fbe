-- Reading what a path prints gives the path again, and what is read is a path.
use Rattle.std.proofs.Common.{◌≡◌, ℕ, Bool, true, false, not, ◌&&◌, ◌||◌, List, [], ◌∷◌, ◌++◌, map, length, get_or, refl, sym, ◌∙◌, ap, arith}
use Rattle.std.proofs.lemmas.Bool.{false≢true, and_parts, and_left, or_parts, not-true, cond-true, cond-false, cond_both, and_from, ne_eqb, eqb-true}
use Rattle.std.specs.List.{filter}
use Rattle.std.specs.Str.{bytes_eq}
use Rattle.std.specs.Path.{path_components, path_names, leading_components, first_piece, later_pieces, root_dir, cur_dir, parent_dir, slash, dot, is_name, is_dot_at, has_no_slash}
use Rattle.notify_paths.specs.Path.{PartValue, RootPart, CurPart, ParentPart, NamePart, PathValue, path_eq}
use Rattle.notify_paths.specs.PathText.{part_of, parts_of, part_text, wants_slash, text_after, text_of, is_proper_name, is_inner, all_inner, is_path, IsPath, IsNormal}
use Rattle.std.specs.Cmp.Lexicographic.{bytes_decides}
use Rattle.notify_paths.specs.PathLaws.{path_eq_decides}
use lib.Dec.{eqb}
use mathlib.Core.Path.{ap₂}
use mathlib.Core.List.{append-nil}

-- what makes a name proper
pub proper_facts : (b : List ℕ) → is_proper_name b ≡ true → (is_name b ≡ true) × (bytes_eq b parent_dir ≡ false)
    × (has_no_slash b ≡ true)
proper_facts b h =
    let one = and_parts (is_name b) (not (bytes_eq b parent_dir) && has_no_slash b) h in
    let two = and_parts (not (bytes_eq b parent_dir)) (has_no_slash b) one.1 in
    (one.0, not-true (bytes_eq b parent_dir) two.0, two.1)

-- what makes a name
pub name_facts : (b : List ℕ) → is_name b ≡ true → (eqb (length b) 0 ≡ false) × (bytes_eq b cur_dir ≡ false)
name_facts b h =
    or_parts (eqb (length b) 0) (bytes_eq b cur_dir) (not-true (eqb (length b) 0 || bytes_eq b cur_dir) h)

-- a text without a slash, letter by letter
pub no_slash_parts : (x : ℕ) (xs : List ℕ) → has_no_slash (x ∷ xs) ≡ true → (eqb x slash ≡ false)
    × (has_no_slash xs ≡ true)
no_slash_parts x xs h =
    let two = and_parts (not (eqb x slash)) (has_no_slash xs) h in
    (not-true (eqb x slash) two.0, two.1)

-- inner parts, one by one
pub inner_parts : (p : PartValue) (ps : PathValue) → all_inner (p ∷ ps) ≡ true → (is_inner p ≡ true)
    × (all_inner ps ≡ true)
inner_parts p ps h = and_parts (is_inner p) (all_inner ps) h

-- a text without a slash is not the root
pub not_root : (b : List ℕ) → has_no_slash b ≡ true → bytes_eq b root_dir ≡ false
not_root [] h = refl
not_root (x ∷ xs) h = and_left (eqb x slash) (bytes_eq xs []) (no_slash_parts x xs h).0

-- a proper name is a Name
pub part_of-name : (b : List ℕ) → is_proper_name b ≡ true → part_of b ≡ NamePart b
part_of-name b h =
    let p = proper_facts b h in
    rw (not_root b p.2, (name_facts b p.0).1, p.1) refl

-- an inner part is written without a slash
pub inner_slashless : (p : PartValue) → is_inner p ≡ true → has_no_slash (part_text p) ≡ true
inner_slashless RootPart h = absurd (false≢true h)
inner_slashless CurPart h = absurd (false≢true h)
inner_slashless ParentPart h = refl
inner_slashless (NamePart b) h = (proper_facts b h).2

-- a slash stands behind each inner part
pub inner_wants : (p : PartValue) → is_inner p ≡ true → wants_slash p ≡ true
inner_wants RootPart h = absurd (false≢true h)
inner_wants CurPart h = refl
inner_wants ParentPart h = refl
inner_wants (NamePart b) h = refl

-- an inner part is written as a name
inner_name : (p : PartValue) → is_inner p ≡ true → is_name (part_text p) ≡ true
inner_name RootPart h = absurd (false≢true h)
inner_name CurPart h = absurd (false≢true h)
inner_name ParentPart h = refl
inner_name (NamePart b) h = (proper_facts b h).0

-- an inner part is read back
pub inner_back : (p : PartValue) → is_inner p ≡ true → part_of (part_text p) ≡ p
inner_back RootPart h = refl
inner_back CurPart h = refl
inner_back ParentPart h = refl
inner_back (NamePart b) h = part_of-name b h

-- the first piece ends at the first slash
first-append : (t rest : List ℕ) → has_no_slash t ≡ true → first_piece (t ++ slash ∷ rest) ≡ t
first-append [] rest h = refl
first-append (x ∷ xs) rest h =
    let two = no_slash_parts x xs h in
    cond-false (eqb x slash) _ _ two.0 ∙ ap (λ l. x ∷ l) (first-append xs rest two.1)

-- .. and the others begin there
later-append : (t rest : List ℕ) → has_no_slash t ≡ true → later_pieces (t ++ slash ∷ rest)
    ≡ first_piece rest ∷ later_pieces rest
later-append [] rest h = refl
later-append (x ∷ xs) rest h =
    let two = no_slash_parts x xs h in
    cond-false (eqb x slash) _ _ two.0 ∙ later-append xs rest two.1

-- without a slash the first piece is all
first_whole : (t : List ℕ) → has_no_slash t ≡ true → first_piece t ≡ t
first_whole [] h = refl
first_whole (x ∷ xs) h =
    let two = no_slash_parts x xs h in
    cond-false (eqb x slash) _ _ two.0 ∙ ap (λ l. x ∷ l) (first_whole xs two.1)

-- .. and there are no others
later_none : (t : List ℕ) → has_no_slash t ≡ true → later_pieces t ≡ []
later_none [] h = refl
later_none (x ∷ xs) h =
    let two = no_slash_parts x xs h in
    cond-false (eqb x slash) _ _ two.0 ∙ later_none xs two.1

-- behind a piece without slashes, the pieces are the parts' texts
pieces_behind : (ps : PathValue) → all_inner ps ≡ true → (t : List ℕ) → has_no_slash t ≡ true →
    (first_piece (t ++ text_after true ps) ≡ t) × (later_pieces (t ++ text_after true ps) ≡ map part_text ps)
pieces_behind [] h t s = (
  ap first_piece (append-nil t) ∙ first_whole t s,
  ap later_pieces (append-nil t)
      ∙ later_none t s,
)
pieces_behind (p ∷ ps) h t s =
    let two = inner_parts p ps h in
    let more = pieces_behind ps two.1 (part_text p) (inner_slashless p two.0) in
    let wants = inner_wants p two.0 in
    let e = ap (λ b. part_text p ++ text_after b ps) wants in (
      first-append t _ s,
      later-append t _ s ∙ ap₂ (λ a b. a ∷ b) (ap first_piece e ∙ more.0) (ap later_pieces e
          ∙ more.1),
    )

-- no inner part is skipped
kept : (ps : PathValue) → all_inner ps ≡ true → filter is_name (map part_text ps) ≡ map part_text ps
kept [] h = refl
kept (p ∷ ps) h =
    let two = inner_parts p ps h in
    cond-true (is_name (part_text p)) _ _ (inner_name p two.0) ∙ ap (λ l. part_text p ∷ l) (kept ps two.1)

-- inner parts are read back
back : (ps : PathValue) → all_inner ps ≡ true → map part_of (map part_text ps) ≡ ps
back [] h = refl
back (p ∷ ps) h =
    let two = inner_parts p ps h in
    ap₂ (λ a b. a ∷ b) (inner_back p two.0) (back ps two.1)

-- neither the root nor a leading `.` stands before a name or `..`
leading-none : (t r : List ℕ) → is_name t ≡ true → has_no_slash t ≡ true → leading_components (t ++ r) ≡ []
leading-none [] r n s = absurd (false≢true n)
leading-none (b ∷ []) r n s =
    let plain = (name_facts (b ∷ []) n).1 in
    let slashless = (no_slash_parts b [] s).0 in
    rw (slashless, single b plain) refl
  where
    single : (b : ℕ) → bytes_eq (b ∷ []) cur_dir ≡ false → eqb b dot ≡ false
    single b e = ne_eqb b dot (λ q. absurd (false≢true (sym e ∙ ap (λ c. bytes_eq (c ∷ []) cur_dir) q)))
leading-none (b ∷ c ∷ bs) r n s =
    let one = no_slash_parts b (c ∷ bs) s in
    let second = (no_slash_parts c bs one.1).0 in
    rw one.0 (cond-false (eqb b dot && eqb c slash) _ _ (right (eqb b dot) (eqb c slash) second))
  where
    right : (x y : Bool) → y ≡ false → (x && y) ≡ false
    right true y e = e
    right false y e = refl

-- the names of a text that is these inner parts
names_of_parts : (p : PartValue) (ps : PathValue) → all_inner (p ∷ ps) ≡ true →
    filter is_name (first_piece (part_text p ++ text_after true ps) ∷ later_pieces (part_text p
    ++ text_after true ps)) ≡ map part_text (p ∷ ps)
names_of_parts p ps h =
    let two = inner_parts p ps h in
    let both = pieces_behind ps two.1 (part_text p) (inner_slashless p two.0) in
    ap (filter is_name) (ap₂ (λ a b. a ∷ b) both.0 both.1) ∙ kept (p ∷ ps) h

-- a path of inner parts is read back
inner_again : (p : PartValue) (ps : PathValue) → all_inner (p ∷ ps) ≡ true →
    parts_of (part_text p ++ text_after true ps) ≡ p ∷ ps
unfolding path_components path_names
inner_again p ps h =
    let two = inner_parts p ps h in
    ap (map part_of)
    (ap₂ (λ a b. a ++ b) (leading-none (part_text p) (text_after true ps) (inner_name p two.0)
    (inner_slashless p two.0)) (names_of_parts p ps h)) ∙ back (p ∷ ps) h

-- reading what a path prints gives the path again
pub text_again : (ps : PathValue) → IsPath ps → parts_of (text_of ps) ≡ ps
unfolding path_components path_names
text_again [] h = refl
text_again (RootPart ∷ []) h = refl
text_again (RootPart ∷ p ∷ ps) h =
    let two = inner_parts p ps h in
    let e = ap (λ b. part_text p ++ text_after b ps) (inner_wants p two.0) in
    ap (λ t. RootPart ∷ map part_of (filter is_name (first_piece t ∷ later_pieces t))) e
    ∙ ap (λ l. RootPart ∷ l) (ap (map part_of) (names_of_parts p ps h) ∙ back (p ∷ ps) h)
text_again (CurPart ∷ []) h = refl
text_again (CurPart ∷ p ∷ ps) h =
    let both = pieces_behind (p ∷ ps) h cur_dir refl in
    ap (λ l. CurPart ∷ map part_of l) (ap (filter is_name) (ap₂ (λ a b. a ∷ b) both.0 both.1) ∙ kept (p ∷ ps) h)
    ∙ ap (λ l. CurPart ∷ l) (back (p ∷ ps) h)
text_again (ParentPart ∷ ps) h = inner_again ParentPart ps h
text_again (NamePart b ∷ ps) h = inner_again (NamePart b) ps h

-- what is read is a path
pub first_slashless : (xs : List ℕ) → has_no_slash (first_piece xs) ≡ true
first_slashless [] = refl
first_slashless (x ∷ xs) =
    cond_both (eqb x slash) _ _ (λ l. has_no_slash l
    ≡ true) (λ e. refl) (λ e. and_from (not (eqb x slash)) (has_no_slash (first_piece xs)) (ap not e)
    (first_slashless xs))

-- no piece holds a slash
abbrev all_slashless : List (List ℕ) → Bool
all_slashless [] = true
all_slashless (piece ∷ pieces) = has_no_slash piece && all_slashless pieces

-- the later pieces hold no slash
later_slashless : (xs : List ℕ) → all_slashless (later_pieces xs) ≡ true
later_slashless [] = refl
later_slashless (x ∷ xs) =
    cond_both (eqb x slash) _ _ (λ l. all_slashless l
    ≡ true) (λ e. and_from (has_no_slash (first_piece xs)) (all_slashless (later_pieces xs))
    (first_slashless xs) (later_slashless xs)) (λ e. later_slashless xs)

-- a name without a slash is read as an inner part
inner_part_of : (b : List ℕ) → is_name b ≡ true → has_no_slash b ≡ true → is_inner (part_of b) ≡ true
inner_part_of b n s =
    by (bytes_eq b parent_dir) refl
  where
    by : (r : Bool) → bytes_eq b parent_dir ≡ r → is_inner (part_of b) ≡ true
    by true e = rw (not_root b s, (name_facts b n).1, e) refl
    by false e =
        let good = and_from (is_name b) (not (bytes_eq b parent_dir) && has_no_slash b) n
        (and_from (not (bytes_eq b parent_dir)) (has_no_slash b) (ap not e) s) in
        ap is_inner (part_of-name b good) ∙ good

-- names without slashes are read as inner parts
names_inner : (pieces : List (List ℕ)) → all_slashless pieces ≡ true →
    all_inner (map part_of (filter is_name pieces)) ≡ true
names_inner [] h = refl
names_inner (piece ∷ pieces) h =
    let two = and_parts (has_no_slash piece) (all_slashless pieces) h in
    cond_both (is_name piece) _ _ (λ l. all_inner (map part_of l) ≡ true)
    (λ e. and_from (is_inner (part_of piece)) (all_inner (map part_of (filter is_name pieces)))
    (inner_part_of piece e two.0) (names_inner pieces two.1))
    (λ e. names_inner pieces two.1)

-- inner parts are a path
pub inner_path : (ps : PathValue) → all_inner ps ≡ true → is_path ps ≡ true
inner_path [] h = refl
inner_path (RootPart ∷ ps) h = absurd (false≢true h)
inner_path (CurPart ∷ ps) h = absurd (false≢true h)
inner_path (ParentPart ∷ ps) h = h
inner_path (NamePart b ∷ ps) h = h

-- what is read is a path
pub parts_of_is_path : (text : List ℕ) → IsPath (parts_of text)
unfolding path_components path_names
parts_of_is_path text =
    let names = names_inner (first_piece text ∷ later_pieces text)
    (and_from (has_no_slash (first_piece text)) (all_slashless (later_pieces text)) (first_slashless text)
    (later_slashless text)) in
    cond_both (eqb (get_or text 0 0) slash) _ _ (λ l. is_path (map part_of (l ++ path_names text))
    ≡ true) (λ e. names)
    (λ e. cond_both (is_dot_at text 0) _ _ (λ l. is_path (map part_of (l ++ path_names text))
    ≡ true) (λ f. names) (λ f. inner_path (map part_of (path_names text)) names))

-- the empty text is the empty path
pub empty_parts : parts_of [] ≡ []
unfolding path_components path_names
empty_parts = refl

pub empty_normal : IsNormal []
empty_normal = ap text_of empty_parts

-- what a path is written as is the one text of its parts
pub normal_written : (text : List ℕ) → IsNormal (text_of (parts_of text))
normal_written text = ap text_of (text_again (parts_of text) (parts_of_is_path text))

-- tests of the same
same_tests : (s t : Bool) → (s ≡ true → t ≡ true) → (t ≡ true → s ≡ true) → s ≡ t
same_tests true t f g = sym (f refl)
same_tests false true f g = g refl
same_tests false false f g = refl

nothing : {X : Type 0} (xs : List X) → eqb (length xs) 0 ≡ true → xs ≡ []
nothing [] e = refl
nothing (x ∷ xs) e = absurd (omega (arith, eqb-true (length (x ∷ xs)) 0 e))

-- a path has no part where its text is empty
pub none_empty : (text : List ℕ) → IsNormal text → eqb (length text) 0 ≡ eqb (length (parts_of text)) 0
none_empty text h =
    same_tests (eqb (length text) 0) (eqb (length (parts_of text)) 0)
    (λ e. ap (λ t. eqb (length (parts_of t)) 0) (nothing text e) ∙ ap (λ p. eqb (length p) 0) empty_parts)
    (λ e. ap (λ t. eqb (length t) 0) (sym h ∙ ap text_of (nothing (parts_of text) e)))

-- paths are equal where their texts are
pub equal_texts : (a b : List ℕ) → IsNormal a → IsNormal b → bytes_eq a b ≡ path_eq (parts_of a) (parts_of b)
equal_texts a b h k =
    same_tests (bytes_eq a b) (path_eq (parts_of a) (parts_of b))
    (λ e. (path_eq_decides (parts_of a) (parts_of b)).1 (ap parts_of ((bytes_decides a b).0 e)))
    (λ e. (bytes_decides a b).1 (sym h ∙ ap text_of ((path_eq_decides (parts_of a) (parts_of b)).0 e) ∙ k))
