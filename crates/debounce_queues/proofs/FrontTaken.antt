-- Queues that are trimmed one after the other, at the paths that are due.
use Rattle.std.proofs.Common.{◌≡◌, ℕ, Bool, true, false, not, ◌&&◌, ◌||◌, refl, ap, sym, ◌∙◌, arith, List, [], ◌∷◌, ◌++◌, is_some, length}
use Rattle.std.specs.Prelude.{if◌then◌else◌}
use Rattle.std.specs.Ordering.{is_eq, ordering_reverse}
use Rattle.std.specs.declared.cmp.Ordering.{Ordering}
use Rattle.std.specs.declared.cmp.Ordering.TheVariants.{Less, Equal, Greater}
use Rattle.std.specs.BTreeMap.{is_at}
use Rattle.std.specs.BTreeSet.{BTreeSet}
use Rattle.std.specs.List.{AllByRecursion, list_any}
use Rattle.std.specs.List.Sorted.{IsStrictlySortedBy}
use Rattle.std.specs.Map.{keys_of}
use Rattle.std.proofs.lemmas.Cmp.{tied_itself}
use Rattle.notify_paths.specs.Path.{PathValue, path_cmp}
use Rattle.notify_paths.specs.PathLaws.{path_cmp_total}
use Rattle.debounce_model.specs.Queues.{Queues, queue_at}
use Rattle.debounce_model.specs.Due.{due_fronts, is_any_due, place_list, rests}
use Rattle.debounce_model.proofs.DueCounts.{count_none}
use Rattle.debounce_queues.specs.declared.due.Due.{Due}
use Rattle.debounce_queues.specs.Due.{is_due, is_due_at}
use Rattle.debounce_queues.specs.Fronts.{FrontSet, IsIndexed, has}
use Rattle.debounce_queues.specs.Steps.{AreFilled, AreLater, ArePathsDue, AreThere, HasNoneDue, IsUndue, IsWith, emitted_at, emitted_of, given_at, is_due_front, taken_at, trimmed_at}
use Rattle.debounce_queues.proofs.FrontMoves.{tied_path}
use Rattle.debounce_queues.proofs.FrontPlaces.{emitted-all}
use Rattle.debounce_queues.proofs.FrontTicks.{all_found, covered_later, none_due, rests-quiet}
use Rattle.debounce_queues.proofs.FrontTrims.{due_there, step_counted, step_filled, step_ordered, step_others, step_rests, step_trimmed}
use Rattle.debounce_queues.proofs.FrontWhole.{indexed-trimmed}

-- what becomes of the queues at these paths
pub record Taken (due : Due) (m : Queues) (ps : List PathValue) : Type 0 where
  pub there : AreThere due m ps
  pub left : taken_at due m ps ≡ rests (is_due due) m
  pub given : given_at due m ps ≡ emitted_at due m ps
  pub counted : due_fronts (is_due due) m ≡ length ps

-- a path that stands before others is none of them
apart : (p : PathValue) (ps : List PathValue) → AllByRecursion (λ y. path_cmp p y ≡ Less) ps →
    list_any (is_at (path_cmp p)) ps ≡ false
apart p [] a = refl
apart p (q ∷ ps) a = rw a.0 (apart p ps a.1)

-- queues that are equal at these paths emit the same there
same_emitted : (due : Due) (m n : Queues) (ps : List PathValue) →
    AllByRecursion (λ p. queue_at n p ≡ queue_at m p) ps → emitted_at due n ps ≡ emitted_at due m ps
same_emitted due m n [] a = refl
same_emitted due m n (p ∷ ps) a = ap (λ o. emitted_of due o ++ emitted_at due n ps) a.0
    ∙ ap (λ r. emitted_of due (queue_at m p) ++ r) (same_emitted due m n ps a.1)

-- the queues of the paths after this one stay
all_stay : (m n : Queues) (p : PathValue) (ps : List PathValue) →
    ((q : PathValue) → is_at (path_cmp p) q ≡ false → queue_at n q ≡ queue_at m q) →
    AllByRecursion (λ y. path_cmp p y ≡ Less) ps → AllByRecursion (λ q. queue_at n q ≡ queue_at m q) ps
all_stay m n p [] h a = tt
all_stay m n p (q ∷ ps) h a = (h q (rw a.0 refl), all_stay m n p ps h a.1)

-- the paths that are due, one after the other, are all that is due
pub taken : (due : Due) (m : Queues) (ps : List PathValue) → IsStrictlySortedBy path_cmp (keys_of m) →
    AreFilled m → IsStrictlySortedBy path_cmp ps →
    ((p : PathValue) → list_any (is_at (path_cmp p)) ps ≡ is_due_front due (queue_at m p)) → Taken due m ps
unfolding IsStrictlySortedBy
taken due m [] s f d h =
    let quiet : is_any_due (is_due due) m ≡ false =
    none_due due m m (all_found path_cmp_total m s) (λ p. sym (h p)) in
    record {
      there = tt;
      left = sym (rests-quiet (is_due due) m f quiet);
      given = refl;
      counted = count_none (is_due due) m quiet;
    }
taken due m (p ∷ ps) s f d h =
    let here : is_due_front due (queue_at m p) ≡ true = sym (h p) ∙ rw (tied_itself path_cmp_total p) refl in
    let at = due_there due (queue_at m p) here in
    let n : Queues = trimmed_at due m p in
    let trims = step_trimmed due m n p at.0 s at.1 refl in
    let more = taken due n ps (step_ordered due m n p at.0 s at.1 refl)
    (step_filled due m n p at.0 s at.1 refl f) d.1 (λ q. by q trims (is_at (path_cmp p) q) refl) in
    let fewer = step_counted due m n p at.0 s at.1 refl here in
    record {
      there = (ap is_some at.1, more.there);
      left = more.left ∙ step_rests due m n p at.0 s at.1 refl;
      given = ap (λ r. emitted_of due (queue_at m p) ++ r) (more.given
          ∙ same_emitted due m n ps (all_stay m n p ps (step_others due m n p at.0 s at.1 refl) d.0));
      counted = omega (arith, fewer, more.counted);
    }
  where
    -- the test may be turned round
    flipped : (q : PathValue) → is_at (path_cmp q) p ≡ is_at (path_cmp p) q
    flipped q = ap is_eq (path_cmp_total.antisymm q p) ∙ same (path_cmp p q)
      where
        same : (o : Ordering) → is_eq (ordering_reverse o) ≡ is_eq o
        same Less = refl
        same Equal = refl
        same Greater = refl

    by : (q : PathValue) → ((r : PathValue) → is_due_front due (queue_at (trimmed_at due m p) r)
        ≡ (if is_at (path_cmp p) r then false else is_due_front due (queue_at m r))) → (b : Bool) →
        is_at (path_cmp p) q ≡ b → list_any (is_at (path_cmp q)) ps
        ≡ is_due_front due (queue_at (trimmed_at due m p) q)
    by q trims true e = let same : p ≡ q = tied_path p q e in
        ap (λ r. list_any (is_at (path_cmp r)) ps) (sym same) ∙ apart p ps d.0 ∙ sym (trims q ∙ rw e refl)
    by q trims false e = ap (λ b. b || list_any (is_at (path_cmp q)) ps) (sym (flipped q ∙ e)) ∙ h q
        ∙ sym (trims q ∙ rw e refl)

-- the same, of a set of paths: what is emitted is what all queues emit
module _ (due : Due) (m : Queues) (paths : BTreeSet PathValue) (s : IsStrictlySortedBy path_cmp (keys_of m))
    (f : AreFilled m) (d : IsStrictlySortedBy path_cmp paths.keys) (h : ArePathsDue due m paths) where
  pub taken_there : AreThere due m paths.keys
  taken_there = (taken due m paths.keys s f d h).there

  pub taken_left : taken_at due m paths.keys ≡ rests (is_due due) m
  taken_left = (taken due m paths.keys s f d h).left

  pub taken_given : given_at due m paths.keys ≡ place_list (is_due due) m
  taken_given = (taken due m paths.keys s f d h).given ∙ emitted-all due paths m d s h

  pub taken_counted : due_fronts (is_due due) m ≡ length paths.keys
  taken_counted = (taken due m paths.keys s f d h).counted

-- the index, once the later fronts were put in and the pairs that are due taken out
pub indexed_taken : (due : Due) (fs gs hs : FrontSet) (m after : Queues) (later : List (ℕ × PathValue)) →
    IsIndexed fs m → IsStrictlySortedBy path_cmp (keys_of m) → AreLater due m later → IsWith later fs gs →
    IsUndue due gs hs → after ≡ rests (is_due due) m → IsIndexed hs after
indexed_taken due fs gs hs m after later i s l w u e =
    indexed-trimmed due gs hs m after (covered_later due fs gs m i s (λ t p. w t p
    ∙ ap (λ b. b || has fs t p) (l t p))) u e

-- an index that has the pairs that are not due, and none that is
pub undue : (due : Due) (fs gs : FrontSet) → ((t : ℕ) (p : PathValue) → is_due_at due t ≡ false →
    has gs t p ≡ has fs t p) → HasNoneDue due gs → IsUndue due fs gs
undue due fs gs kept none t p = by (is_due_at due t) refl
  where
    by : (b : Bool) → is_due_at due t ≡ b → has gs t p ≡ (not b && has fs t p)
    by true d = none t p d
    by false d = kept t p d
