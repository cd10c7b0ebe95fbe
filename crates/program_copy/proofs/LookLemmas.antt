-- What is noted of looks, and that it stays. `looks` cites these.
use Rattle.std.proofs.Common.{◌≡◌, ◌∙◌, Bool, true, false, cond, ◌||◌, List, [], ◌∷◌, Option, None, Some, refl, sym, ap, subst, true≢false, is_eq}
use Rattle.std.specs.Prelude.{is_some, if◌then◌else◌}
use Rattle.std.specs.BTreeMap.{is_at, insert_entry}
use Rattle.notify_paths.specs.Path.{PathValue, path_cmp}
use Rattle.notify_paths.specs.PathLaws.{path_cmp_total}
use Rattle.debounce_model.proofs.Entries.{lookup-insert_other, lookup-insert_same}
use Rattle.debounce_laws.proofs.PathSets.{tied, tied_to_itself}
use Rattle.reader_paths.specs.Plan.{look_at, stands}
use Rattle.reader_paths.specs.declared.plan.action.Standing.{Standing}
use Rattle.program_copy.specs.Copy.{CopiedValue}
use Rattle.program_copy.specs.Looked.{AreSeen, IsNoted, OthersSeen, PathMap, Sees, StayKnown, is_known}
use Rattle.program_copy.specs.Seen.{standing_of}
use Rattle.program_copy.specs.declared.seen.Seen.{Seen}
use Rattle.program_copy.specs.declared.seen.Seen.TheVariants.{Stands, Other, Nothing, Closed}

-- what is put at a path, read at a path
look_at-put : {V : Type 0} (s : List (PathValue × V)) (p q : PathValue) (w : V) (b : Bool) → is_at (path_cmp q) p ≡ b →
    look_at (insert_entry path_cmp s p w) q ≡ cond b (Some w) (look_at s q)
look_at-put s p q w true h =
    let same : q ≡ p = tied q p h in
    subst (λ r. look_at (insert_entry path_cmp s p w) r ≡ Some w) (sym same) (lookup-insert_same path_cmp_total s p w)
look_at-put s p q w false h = lookup-insert_other path_cmp_total s p q w h

-- .. at that path
pub look_at-put_here : {V : Type 0} (s : List (PathValue × V)) (p : PathValue) (w : V) →
    look_at (insert_entry path_cmp s p w) p ≡ Some w
look_at-put_here s p w = lookup-insert_same path_cmp_total s p w

-- what stands stays
pub stands_put : {V : Type 0} (s : List (PathValue × V)) (p : PathValue) (w : V) (q : PathValue) →
    stands (look_at s) q ≡ true → stands (look_at (insert_entry path_cmp s p w)) q ≡ true
stands_put s p w q h = by (is_at (path_cmp q) p) refl
  where
    by : (b : Bool) → is_at (path_cmp q) p ≡ b → stands (look_at (insert_entry path_cmp s p w)) q ≡ true
    by true e = ap is_some (look_at-put s p q w true e)
    by false e = ap is_some (look_at-put s p q w false e) ∙ h

-- the first of two, or the second
or_left : (a b : Bool) → a ≡ true → (a || b) ≡ true
or_left true b h = refl
or_left false b h = absurd (true≢false (sym h))

-- .. of which neither is
no_first : (a b : Bool) → (a || b) ≡ false → a ≡ false
no_first true b h = absurd (true≢false h)
no_first false b h = refl

-- what isn't there is none
none_of : {V : Type 0} (o : Option V) → is_some o ≡ false → o ≡ None
none_of None h = refl
none_of (Some v) h = absurd (true≢false h)

-- one of two grows
or_grows : (a a' b b' : Bool) → (a ≡ true → a' ≡ true) → (b ≡ true → b' ≡ true) → (a || b) ≡ true → (a' || b') ≡ true
or_grows true a' b b' f g h = or_left a' b' (f refl)
or_grows false a' b b' f g h = by a' (g h)
  where
    by : (c : Bool) → b' ≡ true → (c || b') ≡ true
    by true e = refl
    by false e = e

-- what was looked at is known after a path was put in where it stands
pub stay_standing : (st : CopiedValue) (ot : OthersSeen) (p : PathValue) (s : Standing) →
    StayKnown st ot (insert_entry path_cmp st p s) ot
stay_standing st ot p s = λ q. or_grows (stands (look_at st) q) (stands (look_at (insert_entry path_cmp st p s)) q)
    (stands (look_at ot) q) (stands (look_at ot) q) (stands_put st p s q) (λ h. h)

-- .. or elsewhere
pub stay_others : (st : CopiedValue) (ot : OthersSeen) (p : PathValue) (s : Seen) →
    StayKnown st ot st (insert_entry path_cmp ot p s)
stay_others st ot p s = λ q. or_grows (stands (look_at st) q) (stands (look_at st) q)
    (stands (look_at ot) q) (stands (look_at (insert_entry path_cmp ot p s)) q) (λ h. h) (stands_put ot p s q)

-- the path itself is known then
pub known_standing : (st : CopiedValue) (ot : OthersSeen) (p : PathValue) (s : Standing) →
    is_known (insert_entry path_cmp st p s) ot p ≡ true
known_standing st ot p s = rw (look_at-put_here st p s) refl

-- .. or elsewhere
pub known_others : (st : CopiedValue) (ot : OthersSeen) (p : PathValue) (s : Seen) →
    is_known st (insert_entry path_cmp ot p s) p ≡ true
known_others st ot p s = rw (look_at-put_here ot p s) (or_true (stands (look_at st) p))
  where
    or_true : (a : Bool) → (a || true) ≡ true
    or_true true = refl
    or_true false = refl

-- nothing isn't copied
nothing_copied : (s : Standing) (seen : Seen) (w : Bool) → Some s ≡ (if w then standing_of seen else None) →
    seen ≡ Nothing → ⊥
nothing_copied s seen true e n = some_none (e ∙ ap standing_of n)
  where
    some_none : Some s ≡ None → ⊥
    some_none h = true≢false (ap is_some h)
nothing_copied s seen false e n = true≢false (ap is_some e)

-- what was seen at the path and stands is noted
pub seen_standing : (sees : Sees) (wanted : PathMap) (st : CopiedValue) (ot : OthersSeen) (p : PathValue) (s : Standing)
    (seen : Seen) → sees p seen → Some s ≡ (if stands (look_at wanted) p then standing_of seen else None) →
    AreSeen sees wanted st ot → AreSeen sees wanted (insert_entry path_cmp st p s) ot
seen_standing sees wanted st ot p s seen is e before = λ q. by q (is_at (path_cmp q) p) refl
  where
    Noted : PathValue → Type 0
    Noted q = IsNoted sees q (stands (look_at wanted) q) (look_at (insert_entry path_cmp st p s) q) (look_at ot q)

    by : (q : PathValue) (b : Bool) → is_at (path_cmp q) p ≡ b → is_known (insert_entry path_cmp st p s) ot q ≡ true →
        Noted q
    by q true h k = subst Noted (sym (tied q p h)) (
      seen,
      is,
      look_at-put_here st p s ∙ e,
      λ n. absurd (nothing_copied s seen (stands (look_at wanted) p) e n),
    )
    by q false h k =
        let same : look_at (insert_entry path_cmp st p s) q ≡ look_at st q = look_at-put st p q s false h in
        subst (λ o. IsNoted sees q (stands (look_at wanted) q) o (look_at ot q)) (sym same)
        (before q (sym (ap (λ o. is_some o || stands (look_at ot) q) same) ∙ k))

-- what was seen at the path and isn't copied is noted
pub seen_others : (sees : Sees) (wanted : PathMap) (st : CopiedValue) (ot : OthersSeen) (p : PathValue) (seen : Seen) →
    sees p seen → None ≡ (if stands (look_at wanted) p then standing_of seen else None) → is_known st ot p ≡ false →
    AreSeen sees wanted st ot → AreSeen sees wanted st (insert_entry path_cmp ot p seen)
seen_others sees wanted st ot p seen is e new before = λ q. by q (is_at (path_cmp q) p) refl
  where
    Noted : PathValue → Type 0
    Noted q = IsNoted sees q (stands (look_at wanted) q) (look_at st q) (look_at (insert_entry path_cmp ot p seen) q)

    by : (q : PathValue) (b : Bool) → is_at (path_cmp q) p ≡ b →
        is_known st (insert_entry path_cmp ot p seen) q ≡ true → Noted q
    by q true h k = subst Noted (sym (tied q p h)) (
      seen,
      is,
      none_of (look_at st p) (no_first (stands (look_at st) p) (stands (look_at ot) p) new) ∙ e,
      λ n. look_at-put_here ot p seen ∙ ap (λ x. Some x) n,
    )
    by q false h k =
        let same : look_at (insert_entry path_cmp ot p seen) q ≡ look_at ot q = look_at-put ot p q seen false h in
        subst (λ o. IsNoted sees q (stands (look_at wanted) q) (look_at st q) o) (sym same)
        (before q (sym (ap (λ o. stands (look_at st) q || is_some o) same) ∙ k))

-- where nothing was looked at, all is noted
pub seen_none : (sees : Sees) (wanted : PathMap) → AreSeen sees wanted [] []
seen_none sees wanted = λ q k. absurd (true≢false (sym k))

-- what is noted is so of equal maps
pub seen_moved : (sees : Sees) (w w' : PathMap) (st st' : CopiedValue) (ot ot' : OthersSeen) → w' ≡ w → st' ≡ st →
    ot' ≡ ot → AreSeen sees w st ot → AreSeen sees w' st' ot'
seen_moved sees w w' st st' ot ot' e f h before =
    subst (λ v. AreSeen sees v st' ot') (sym e)
    (subst (λ v. AreSeen sees w v ot') (sym f) (subst (λ v. AreSeen sees w st v) (sym h) before))
