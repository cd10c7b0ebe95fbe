-- A text that is written as its parts are.
use Rattle.std.proofs.Common.{◌≡◌, ℕ, ◌+◌, ◌<◌, Bool, true, false, not, ◌&&◌, List, [], ◌∷◌, ◌++◌, map, length, get_or, drop, drop-cons, suc, ◌==◌, if◌then◌else◌, refl, sym, ◌∙◌, ap, ap₂, arith}
use Rattle.std.proofs.lemmas.Bool.{false≢true, and_parts, cond-true, cond_both, and_from, ne_eqb, eqb-true}
use Rattle.std.specs.List.{filter}
use Rattle.std.specs.Str.{bytes_eq}
use Rattle.std.specs.Cmp.Lexicographic.{bytes_decides}
use Rattle.std.specs.Path.{path_components, path_names, leading_components, first_piece, later_pieces, root_dir, cur_dir, parent_dir, slash, dot, is_name, is_dot_at, has_no_slash}
use Rattle.notify_paths.specs.TextSteps.{begins_name, names_follow}
use Rattle.notify_paths.specs.PathText.{part_of, parts_of, part_text, wants_slash, text_after, text_of, IsNormal}
use Rattle.notify_paths.proofs.Texts.{first_slashless, not_root}
use lib.Dec.{eqb}

-- a piece is written as it was read
piece_again : (b : List ℕ) → part_text (part_of b) ≡ b
piece_again b =
    cond_both (bytes_eq b root_dir) _ _ (λ p. part_text p ≡ b) (λ e. sym ((bytes_decides b root_dir).0 e))
    (λ _. cond_both (bytes_eq b cur_dir) _ _ (λ p. part_text p ≡ b) (λ e. sym ((bytes_decides b cur_dir).0 e))
    (λ _. cond_both (bytes_eq b parent_dir) _ _ (λ p. part_text p
    ≡ b) (λ e. sym ((bytes_decides b parent_dir).0 e)) (λ _. refl)))

-- a slash stands behind a piece
piece_wants : (b : List ℕ) → has_no_slash b ≡ true → wants_slash (part_of b) ≡ true
piece_wants b h =
    cond_both (bytes_eq b root_dir) _ _ (λ p. wants_slash p
    ≡ true) (λ e. absurd (false≢true (sym (not_root b h) ∙ e)))
    (λ _. cond_both (bytes_eq b cur_dir) _ _ (λ p. wants_slash p ≡ true) (λ _. refl)
    (λ _. cond_both (bytes_eq b parent_dir) _ _ (λ p. wants_slash p ≡ true) (λ _. refl) (λ _. refl)))

-- the first piece, and then the others
joined : (text : List ℕ) → first_piece text ++ text_after true (map part_of (later_pieces text)) ≡ text
joined [] = refl
joined (b ∷ rest) = by (eqb b slash) refl (joined rest)
  where
    by : (t : Bool) → eqb b slash ≡ t → first_piece rest ++ text_after true (map part_of (later_pieces rest))
        ≡ rest → first_piece (b ∷ rest) ++ text_after true (map part_of (later_pieces (b ∷ rest))) ≡ b ∷ rest
    by true e more =
        rw (e, piece_again (first_piece rest), piece_wants (first_piece rest) (first_slashless rest))
        (ap₂ (λ x l. x ∷ l) (sym (eqb-true b slash e)) more)
    by false e more = rw e (ap (λ l. b ∷ l) more)

-- what begins a name is one
begins : (rest : List ℕ) → begins_name rest ≡ true → is_name (first_piece rest) ≡ true
begins [] h = absurd (false≢true h)
begins (b ∷ []) h = by (eqb b slash) (eqb b dot) refl refl h
  where
    by : (s t : Bool) → eqb b slash ≡ s → eqb b dot ≡ t → begins_name (b ∷ []) ≡ true →
        is_name (first_piece (b ∷ [])) ≡ true
    by true t e f g = absurd (false≢true (rw e at g))
    by false true e f g = absurd (false≢true (rw (e, f) at g))
    by false false e f g = rw (e, f) refl
begins (b ∷ c ∷ bs) h = by (eqb b slash) (eqb b dot) (eqb c slash) refl refl refl h
  where
    by : (s t u : Bool) → eqb b slash ≡ s → eqb b dot ≡ t → eqb c slash ≡ u → begins_name (b ∷ c ∷ bs) ≡ true →
        is_name (first_piece (b ∷ c ∷ bs)) ≡ true
    by true t u e f d g = absurd (false≢true (rw e at g))
    by false true true e f d g = absurd (false≢true (rw (e, f, d) at g))
    by false true false e f d g =
        rw (e, d, f, ne_eqb (length (b ∷ c ∷ first_piece bs)) 0 (λ q. omega (arith, q))) refl
    by false false u e f d g =
        rw (e, f, ne_eqb (length (b ∷ first_piece (c ∷ bs))) 0 (λ q. omega (arith, q))) refl

-- every later piece is a name
kept : (text : List ℕ) → names_follow text ≡ true → filter is_name (later_pieces text) ≡ later_pieces text
kept [] h = refl
kept (b ∷ rest) h = by (eqb b slash) refl (kept rest)
  where
    by : (t : Bool) → eqb b slash ≡ t →
        (names_follow rest ≡ true → filter is_name (later_pieces rest) ≡ later_pieces rest) →
        filter is_name (later_pieces (b ∷ rest)) ≡ later_pieces (b ∷ rest)
    by true e more =
        let two = and_parts (begins_name rest) (names_follow rest) (rw e at h) in
        rw (e, begins rest two.0) (ap (λ l. first_piece rest ∷ l) (more two.1))
    by false e more = rw e (more (rw e at h))

-- where the next byte is a slash or the end, the first piece is empty
at_end : (rest : List ℕ) → eqb (get_or rest 0 slash) slash ≡ true → first_piece rest ≡ []
at_end [] e = refl
at_end (c ∷ cs) e = cond-true (eqb c slash) _ _ e

parts_is : (text : List ℕ) →
    parts_of text
    ≡ map part_of (leading_components text ++ filter is_name (first_piece text ∷ later_pieces text))
unfolding path_components path_names
parts_is text = refl

written : (text : List ℕ) → names_follow text ≡ true →
    text_of (map part_of (leading_components text ++ filter is_name (first_piece text ∷ later_pieces text)))
    ≡ text
written [] h = refl
written (b ∷ rest) h = by (eqb b slash) (is_dot_at (b ∷ rest) 0) refl refl
  where
    by : (s t : Bool) → eqb b slash ≡ s → is_dot_at (b ∷ rest) 0 ≡ t →
        text_of (map part_of (leading_components (b ∷ rest)
        ++ filter is_name (first_piece (b ∷ rest) ∷ later_pieces (b ∷ rest)))) ≡ b ∷ rest
    by true t e f =
        let two = and_parts (begins_name rest) (names_follow rest) (rw e at h) in
        rw (
          e,
          begins rest two.0,
          kept rest two.1,
          piece_again (first_piece rest),
          piece_wants (first_piece rest) (first_slashless rest),
        )
        (ap₂ (λ x l. x ∷ l) (sym (eqb-true b slash e)) (joined rest))
    by false true e f =
        let two = and_parts (eqb b dot) (eqb (get_or rest 0 slash) slash) f in
        rw (e, two.0, two.1, at_end rest two.1, kept rest (rw e at h))
        (ap₂ (λ x l. x ∷ l) (sym (eqb-true b dot two.0))
        (ap (λ l. l ++ text_after true (map part_of (later_pieces rest))) (sym (at_end rest two.1))
        ∙ joined rest))
    by false false e f =
        let name : is_name (b ∷ first_piece rest) ≡ true =
        rw e at (begins (b ∷ rest) (and_from (not (eqb b slash)) (not (is_dot_at (b ∷ rest) 0)) (ap not e)
        (ap not f))) in
        rw (
          e,
          f,
          name,
          kept rest (rw e at h),
          piece_again (b ∷ first_piece rest),
          piece_wants (b ∷ first_piece rest) (and_from (not (eqb b slash)) (has_no_slash (first_piece rest))
              (ap not e) (first_slashless rest)),
        )
        (ap (λ l. b ∷ l) (joined rest))

-- a text in which a name follows each slash is written as its parts are
pub normal_follows : (text : List ℕ) → names_follow text ≡ true → IsNormal text
normal_follows text h = ap text_of (parts_is text) ∙ written text h

-- one byte more
pub follow_step : (text : List ℕ) (i : ℕ) → i < length text → names_follow (drop i text)
    ≡ ((if get_or text i 0 == slash then begins_name (drop (i + 1) text) else true)
    && names_follow (drop (i + 1) text))
follow_step text i h = let q : suc i ≡ i + 1 = omega arith in
    ap names_follow (drop-cons text i 0 h ∙ ap (λ n. get_or text i 0 ∷ drop n text) q)
