-- Prefixes of paths, beside the lemmas of the paths' own crate.
use Rattle.std.proofs.Common.{◌≡◌, Bool, true, false, [], ◌∷◌, refl, sym, ◌∙◌, true≢false}
use Rattle.std.specs.declared.cmp.Ordering.TheVariants.{Less}
use Rattle.notify_paths.specs.Path.{PathValue, part_eq, path_cmp, is_prefix, is_below}
use Rattle.notify_paths.specs.PathLaws.{part_eq_decides, path_eq_decides}
use Rattle.notify_paths.proofs.Prefixes.{front_no_prefix, other_below, and_false}
use Rattle.poll_listing.proofs.PairLemmas.{turned_less}

-- a prefix of a prefix is a prefix
pub prefix-trans : (a b c : PathValue) → is_prefix a b ≡ true → is_prefix b c ≡ true → is_prefix a c ≡ true
prefix-trans [] b c h k = refl
prefix-trans (x ∷ a) [] c h k = absurd (true≢false (sym h))
prefix-trans (x ∷ a) (y ∷ b) [] h k = absurd (true≢false (sym k))
prefix-trans (x ∷ a) (y ∷ b) (z ∷ c) h k = by (part_eq x y) (part_eq y z) refl refl (prefix-trans a b c)
  where
    by : (s t : Bool) → part_eq x y ≡ s → part_eq y z ≡ t →
        (is_prefix a b ≡ true → is_prefix b c ≡ true → is_prefix a c ≡ true) → is_prefix (x ∷ a) (z ∷ c) ≡ true
    by true true p q more = let same : x ≡ z = (part_eq_decides x y).0 p ∙ (part_eq_decides y z).0 q in
        rw ((part_eq_decides x z).1 same) (more (rw p at h) (rw q at k))
    by true false p q more = absurd (true≢false (sym (rw q at k)))
    by false t p q more = absurd (true≢false (sym (rw p at h)))

-- what stands behind a path is no prefix of it
pub no_prefix_behind : (x y : PathValue) → path_cmp x y ≡ Less → is_prefix y x ≡ false
no_prefix_behind x y q = front_no_prefix y x (turned_less x y q)

-- a path is not below itself
pub not_below_itself : (x : PathValue) → is_below x x ≡ false
not_below_itself x = rw ((path_eq_decides x x).1 refl) (and_false (is_prefix x x))

-- behind a path, to have it as a prefix is to lie strictly below it
pub below_behind : (x y : PathValue) → path_cmp x y ≡ Less → is_below y x ≡ is_prefix x y
below_behind x y q = other_below x y (λ e. cc (e, q))

-- what stands behind a path is not what it lies below
pub not_below_behind : (x y : PathValue) → path_cmp x y ≡ Less → is_below x y ≡ false
not_below_behind x y q = rw (no_prefix_behind x y q) refl
