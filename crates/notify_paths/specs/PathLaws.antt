-- Laws of the order and the equality of paths, which only impls and other laws cite. Nothing here defines anything.
use Rattle.std.specs.Prelude.{◌≡◌, refl, true}
use Rattle.std.specs.Ordering.{nat_cmp, is_eq, eq_by_cmp, ordering_then, as_partial_cmp}
use Rattle.std.specs.declared.cmp.Ordering.{Ordering}
use Rattle.std.specs.declared.cmp.Ordering.TheVariants.{Less, Equal, Greater}
use Rattle.std.proofs.Common.{ap, sym, arith, true≢false, ◌∙◌}
use Rattle.std.specs.Bool.{Decides}
use Rattle.std.specs.Cmp.Lexicographic.{slice_cmp, lists_ties, pointwise_decides, same_text, texts_ties}
use Rattle.std.specs.Cmp.{IsTotalOrder, IsEquivalence, IsPartialOrder, unsigned_tied, unsigned_Decides, po}
use Rattle.std.proofs.lemmas.Cmp.{nat_cmp_total, on_total, then_total, nat_list_cmp_total, lists_total, lists_equiv, eq_by_cmp_equiv}
use Rattle.notify_paths.specs.Path.{PartValue, RootPart, CurPart, ParentPart, NamePart, PathValue, part_rank, part_bytes, part_cmp, part_eq, path_cmp, path_eq}

-- parts are totally ordered
pub part_cmp_total : IsTotalOrder part_cmp
part_cmp_total = then_total (on_total part_rank nat_cmp_total) (on_total part_bytes nat_list_cmp_total)

-- equality of parts is an equivalence
pub part_eq_equiv : IsEquivalence part_eq
part_eq_equiv = eq_by_cmp_equiv part_cmp_total

-- paths are totally ordered
pub path_cmp_total : IsTotalOrder path_cmp
path_cmp_total = lists_total part_cmp_total

-- equality of paths is an equivalence
pub path_eq_equiv : IsEquivalence path_eq
path_eq_equiv = lists_equiv part_eq_equiv

-- paths are equal if their order says so
pub path_matches_eq : (a b : PathValue) → path_eq a b ≡ eq_by_cmp path_cmp a b
path_matches_eq = lists_ties part_cmp (λ _ _. refl)

-- rank and bytes determine a part
pub part_from_both : (a b : PartValue) → part_rank a ≡ part_rank b → part_bytes a ≡ part_bytes b → a ≡ b
part_from_both RootPart RootPart r e = refl
part_from_both CurPart CurPart r e = refl
part_from_both ParentPart ParentPart r e = refl
part_from_both (NamePart x) (NamePart y) r e = ap NamePart e
part_from_both RootPart CurPart r e = absurd (omega arith)
part_from_both RootPart ParentPart r e = absurd (omega arith)
part_from_both RootPart (NamePart y) r e = absurd (omega arith)
part_from_both CurPart RootPart r e = absurd (omega arith)
part_from_both CurPart ParentPart r e = absurd (omega arith)
part_from_both CurPart (NamePart y) r e = absurd (omega arith)
part_from_both ParentPart RootPart r e = absurd (omega arith)
part_from_both ParentPart CurPart r e = absurd (omega arith)
part_from_both ParentPart (NamePart y) r e = absurd (omega arith)
part_from_both (NamePart x) RootPart r e = absurd (omega arith)
part_from_both (NamePart x) CurPart r e = absurd (omega arith)
part_from_both (NamePart x) ParentPart r e = absurd (omega arith)

-- if one comparison after the other says equal, each does
then_both : (o p : Ordering) → is_eq (ordering_then o p) ≡ true → (is_eq o ≡ true) × (is_eq p ≡ true)
then_both Less p h = absurd (true≢false (sym h))
then_both Equal p h = (refl, h)
then_both Greater p h = absurd (true≢false (sym h))

-- the test of parts decides whether they are the same
pub part_eq_decides : (a b : PartValue) → Decides (part_eq a b) (a ≡ b)
part_eq_decides a b = (
  λ h.
      let two = then_both (nat_cmp (part_rank a) (part_rank b))
      (slice_cmp nat_cmp (part_bytes a) (part_bytes b)) h in
      part_from_both a b
      ((unsigned_Decides (part_rank a) (part_rank b)).0 (sym (unsigned_tied (part_rank a) (part_rank b))
      ∙ two.0))
      (same_text (part_bytes a) (part_bytes b) (sym (texts_ties (part_bytes a) (part_bytes b) ∙ two.1))),
  λ e. rw e (part_eq_equiv.refl b),
)

-- the test of paths decides whether they are the same
pub path_eq_decides : (a b : PathValue) → Decides (path_eq a b) (a ≡ b)
path_eq_decides = pointwise_decides part_eq_decides

-- the partial order of parts
pub part_partial : IsPartialOrder part_eq (as_partial_cmp part_cmp)
part_partial = po part_cmp_total (λ _ _. refl)

-- the partial order of paths
pub path_partial : IsPartialOrder path_eq (as_partial_cmp path_cmp)
path_partial = po path_cmp_total path_matches_eq
