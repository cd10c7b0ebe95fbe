-- What a path that is added to those that wait covers.
use Rattle.std.proofs.Common.{◌≡◌, ◌∙◌, refl, sym, Bool, true, false, true≢false, ◌||◌, List, [], ◌∷◌, inl, inr}
use Rattle.std.specs.Prelude.{◌⊎◌}
use Rattle.std.proofs.lemmas.Bool.{or_right}
use Rattle.std.proofs.lemmas.List.Folds.{list_any-append}
use Rattle.notify_paths.specs.Path.{PathValue, part_eq, is_prefix}
use Rattle.notify_paths.specs.PathLaws.{part_eq_decides}
use Rattle.notify_paths.proofs.Prefixes.{prefix_itself}
use Rattle.poll_watcher.specs.HintSet.Hints.{HintSetValue, Keeps, covers, everything, is_among, others, with_path}

-- a prefix of a prefix is a prefix
prefix-trans : (a b c : PathValue) → is_prefix a b ≡ true → is_prefix b c ≡ true → is_prefix a c ≡ true
prefix-trans [] b c h k = refl
prefix-trans (x ∷ a) [] c h k = absurd (true≢false (sym h))
prefix-trans (x ∷ a) (y ∷ b) [] h k = absurd (true≢false (sym k))
prefix-trans (x ∷ a) (y ∷ b) (z ∷ c) h k = by (part_eq x y) (part_eq y z) refl refl (prefix-trans a b c)
  where
    by : (s t : Bool) → part_eq x y ≡ s → part_eq y z ≡ t →
        (is_prefix a b ≡ true → is_prefix b c ≡ true → is_prefix a c ≡ true) → is_prefix (x ∷ a) (z ∷ c) ≡ true
    by true true p q more = let same : x ≡ z = (part_eq_decides x y).0 p ∙ (part_eq_decides y z).0 q in
        rw ((part_eq_decides x z).1 same) (more (rw p at h) (rw q at k))
    by true false p q more = absurd (true≢false (sym (rw q at k)))
    by false t p q more = absurd (true≢false (sym (rw p at h)))

-- what was at or below one of the paths still is, or lies at or below the new one
among-others : (paths : List PathValue) (path q : PathValue) → is_among paths q ≡ true →
    (is_among (others paths path) q || is_prefix path q) ≡ true
among-others [] path q h = absurd (true≢false (sym h))
among-others (k ∷ ks) path q h = by (is_prefix k q) (is_prefix path k) refl refl (among-others ks path q)
  where
    by : (a b : Bool) → is_prefix k q ≡ a → is_prefix path k ≡ b →
        (is_among ks q ≡ true → (is_among (others ks path) q || is_prefix path q) ≡ true) →
        (is_among (others (k ∷ ks) path) q || is_prefix path q) ≡ true
    by true true e f more =
        or_right (is_among (others (k ∷ ks) path) q) (is_prefix path q) (prefix-trans path k q f e)
    by true false e f more = rw (f, e) refl
    by false true e f more = rw f (more (rw e at h))
    by false false e f more = rw (f, e) (more (rw e at h))

-- nothing was there beside
or-none : (a b : Bool) → (a || (b || false)) ≡ (a || b)
or-none true b = refl
or-none false true = refl
or-none false false = refl

-- what the paths cover, with the new one
with-covers : (set : HintSetValue) (path q : PathValue) → covers (with_path set path) q
    ≡ (is_among (others set.paths path) q || is_prefix path q)
with-covers set path q =
    list_any-append (λ kept. is_prefix kept q) (others set.paths path) (path ∷ [])
    ∙ or-none (is_among (others set.paths path) q) (is_prefix path q)

-- what waits covers no path if not all waits
not-all : (a b : Bool) → (a || b) ≡ false → a ≡ false
not-all true b h = absurd (true≢false h)
not-all false b h = refl

-- a path that was put covers itself
pub put-added : (old : HintSetValue) (path : PathValue) (new : HintSetValue) →
    (new ≡ with_path old path) ⊎ (new ≡ everything) → covers new path ≡ true
put-added old path new (inl put) = rw put (with-covers old path path
    ∙ or_right (is_among (others old.paths path) path) (is_prefix path path) (prefix_itself path))
put-added old path new (inr all) = rw all refl

-- .. and leaves covered what was, if it wasn't itself
pub put-kept : (old : HintSetValue) (path : PathValue) (new : HintSetValue) → covers old path ≡ false →
    (new ≡ with_path old path) ⊎ (new ≡ everything) → Keeps old new
put-kept old path new none (inl put) = λ q h.
    let not_all : old.all ≡ false = not-all old.all (is_among old.paths path) none in
    rw put (with-covers old path q ∙ among-others old.paths path q (rw not_all at h))
put-kept old path new none (inr all) = λ q h. rw all refl
