-- A tick that goes over all queues: the later fronts, and the index of what is left.
use Rattle.std.proofs.Common.{◌≡◌, ℕ, ◌+◌, ◌≤◌, arith, append_assoc, length, length-append, Bool, true, false, cond, not, ◌&&◌, ◌||◌, refl, ap, sym, ◌∙◌, Option, Some, None, List, [], ◌∷◌, ◌++◌}
use Rattle.std.specs.Bool.{◌==◌}
use Rattle.std.specs.BTreeMap.{is_at}
use Rattle.std.specs.List.{AllByRecursion, flat_map}
use Rattle.std.specs.List.Sorted.{IsStrictlySortedBy}
use Rattle.std.specs.Map.{keys_of}
use Rattle.std.proofs.lemmas.Cmp.{tied_itself}
use Rattle.std.proofs.lemmas.List.Folds.{list_any-append}
use Rattle.notify_paths.specs.Path.{PathValue, path_cmp}
use Rattle.notify_paths.specs.PathLaws.{path_cmp_total}
use Rattle.notify_types.specs.Event.{Timed}
use Rattle.debounce_model.specs.Due.{due_fronts, is_front_due, rests, rest_after, waits}
use Rattle.debounce_model.specs.Queues.{Queues, queue_at}
use Rattle.debounce_model.specs.WellFormed.{IsNonempty}
use Rattle.debounce_model.proofs.DueCounts.{count_of, due_step}
use Rattle.debounce_queues.specs.declared.due.Due.{Due}
use Rattle.debounce_queues.specs.Due.{is_due, is_due_at}
use Rattle.debounce_queues.specs.Fronts.{has, is_time, front_of, IsIndexed, front_time}
use Rattle.debounce_queues.specs.Steps.{is_due_front, front_after, is_later_front, has_pair, pair_of, later_pair, AreLater, HasLater}
use Rattle.debounce_queues.proofs.FrontLemmas.{Fronts, same_front}
use Rattle.debounce_queues.proofs.FrontMoves.{tied_path}
use Rattle.debounce_queues.proofs.FrontTicks.{waits_nonempty, above_all, same_number, number_is, rest_quiet, front_not_due}

-- the pair of a time and a path
here : (o : Option ℕ) (t : ℕ) (p : PathValue) → has_pair (pair_of o p) t p ≡ is_time o t
here None t p = refl
here (Some n) t p =
    ap (λ b. b || false) (same_front t n p p ∙ ap (λ b. (t == n) && b) (rw (tied_itself path_cmp_total p) refl))
    ∙ by (t == n) (n == t) refl refl
  where
    by : (a b : Bool) → (t == n) ≡ a → (n == t) ≡ b → ((a && true) || false) ≡ b
    by true b e q = sym (ap (λ k. k == t) (sym (number_is t n e)) ∙ same_number t) ∙ q
    by false true e q = sym e ∙ ap (λ k. t == k) (number_is n t q) ∙ same_number t
    by false false e q = refl

-- .. and another path
elsewhere : (o : Option ℕ) (t : ℕ) (p k : PathValue) → is_at (path_cmp p) k ≡ false → has_pair (pair_of o k) t p
    ≡ false
elsewhere None t p k n = refl
elsewhere (Some s) t p k n = ap (λ b. b || false) (same_front t s p k ∙ ap (λ b. (t == s) && b) n
    ∙ none (t == s))
  where
    none : (b : Bool) → (b && false) ≡ false
    none true = refl
    none false = refl

-- the pairs that come, of all queues
pub later_all : (due : Due) (es : Queues) → IsStrictlySortedBy path_cmp (keys_of es) →
    AreLater due es (flat_map (later_pair due) es)
unfolding IsStrictlySortedBy
later_all due [] s t p = refl
later_all due (e ∷ es) s t p =
    list_any-append _ (later_pair due e) (flat_map (later_pair due) es)
    ∙ ap (λ b. has_pair (later_pair due e) t p || b) (later_all due es s.1 t p)
    ∙ by (is_at (path_cmp p) e.0) refl
  where
    rest : Option ℕ
    rest = front_time (rest_after (is_due due) e.1)

    or_false : (b : Bool) → (b || false) ≡ b
    or_false true = refl
    or_false false = refl

    apart : (d : Bool) → is_at (path_cmp p) e.0 ≡ false → has_pair (cond d (pair_of rest e.0) []) t p ≡ false
    apart true n = elsewhere rest t p e.0 n
    apart false n = refl

    at : (d : Bool) → p ≡ e.0 → has_pair (cond d (pair_of rest e.0) []) t p ≡ (d && is_time rest t)
    at true same = ap (λ k. has_pair (pair_of rest k) t p) (sym same) ∙ here rest t p
    at false same = refl

    by : (b : Bool) → is_at (path_cmp p) e.0 ≡ b →
        (has_pair (later_pair due e) t p || is_later_front due es t p)
        ≡ (is_due_front due (cond b (Some e.1) (queue_at es p))
        && is_time (front_after due (cond b (Some e.1) (queue_at es p))) t)
    by false n = ap (λ b. b || is_later_front due es t p) (apart (is_front_due (is_due due) e.1) n)
    by true i =
        let same : p ≡ e.0 = tied_path p e.0 i in
        let none : queue_at es p ≡ None = ap (queue_at es) same ∙ above_all e.0 es s.0 in
        ap (λ o. has_pair (later_pair due e) t p || (is_due_front due o && is_time (front_after due o) t)) none
        ∙ or_false (has_pair (later_pair due e) t p)
        ∙ at (is_front_due (is_due due) e.1) same

-- what is left is not due
rest_not_due : (due : Due) (es : Queues) (p : PathValue) → is_due_front due (queue_at (rests (is_due due) es) p)
    ≡ false
rest_not_due due [] p = refl
rest_not_due due (e ∷ es) p =
    by (waits (rest_after (is_due due) e.1)) (is_at (path_cmp p) e.0) refl (rest_not_due due es p)
  where
    by : (w b : Bool) → is_at (path_cmp p) e.0 ≡ b → is_due_front due (queue_at (rests (is_due due) es) p)
        ≡ false → is_due_front due
        (queue_at (cond w ((e.0, rest_after (is_due due) e.1) ∷ rests (is_due due) es) (rests (is_due due) es))
        p) ≡ false
    by true true q more = rw q (rest_quiet (is_due due) e.1)
    by true false q more = rw q more
    by false b q more = more

-- what is left is not empty
pub filled-rests : (due : Timed → Bool) (es : Queues) → AllByRecursion (λ e. IsNonempty e.1) (rests due es)
filled-rests due [] = tt
filled-rests due (e ∷ es) = by (waits (rest_after due e.1)) refl (filled-rests due es)
  where
    by : (b : Bool) → waits (rest_after due e.1) ≡ b → AllByRecursion (λ e. IsNonempty e.1) (rests due es) →
        AllByRecursion (λ e. IsNonempty e.1) (cond b ((e.0, rest_after due e.1) ∷ rests due es) (rests due es))
    by true w more = (waits_nonempty (rest_after due e.1) w, more)
    by false w more = more

-- an index that has the later fronts, without its pairs that are due
pub indexed-trimmed : (due : Due) (fs gs : Fronts) (m after : Queues) → HasLater due fs m →
    ((t : ℕ) (p : PathValue) → has gs t p ≡ (not (is_due_at due t) && has fs t p)) →
    after ≡ rests (is_due due) m → IsIndexed gs after
indexed-trimmed due fs gs m after later h e = rw e (record {
  exact = λ t p. h t p ∙ by t p (is_due_at due t) refl;
  filled = filled-rests (is_due due) m;
})
  where
    by : (t : ℕ) (p : PathValue) (b : Bool) → is_due_at due t ≡ b → (not b && has fs t p)
        ≡ is_time (front_of (queue_at (rests (is_due due) m) p)) t
    by t p false d = later t p d
    by t p true d = sym (front_not_due due (queue_at (rests (is_due due) m) p) t (rest_not_due due m p) d)

-- one more is counted before the others
pub count_first : (b : Bool) (n k : ℕ) → count_of b n + k ≡ n + count_of b k
count_first true n k = omega arith
count_first false n k = refl

-- what the next queue gives is moved, and what the others give is left
pub moved_more : (out new left given rest all : List Timed) → left ≡ given ++ rest → new ≡ out ++ given →
    out ++ left ≡ all → new ++ rest ≡ all
moved_more out new left given rest all cut moved is =
    ap (λ o. o ++ rest) moved ∙ append_assoc out given rest ∙ ap (λ r. out ++ r) (sym cut) ∙ is

-- .. and there is room for it
pub room_more : (out new left given rest : List Timed) (len len_now cap cap_now : ℕ) → left ≡ given ++ rest →
    new ≡ out ++ given → len ≡ length out → len_now ≡ length new → cap_now ≡ cap → len + length left ≤ cap →
    len_now + length rest ≤ cap_now
room_more out new left given rest len len_now cap cap_now cut moved l m same room =
    let size : length left ≡ length given + length rest = ap length cut ∙ length-append given rest in
    let longer : length new ≡ length out + length given = ap length moved ∙ length-append out given in
    omega (arith, size, longer, l, m, same, room)

-- .. and it is counted, if its front is due
pub counted_more : (due : Timed → Bool) (e : PathValue × List Timed) (es left : Queues) (b : Bool) (n now all : ℕ) →
    left ≡ e ∷ es → b ≡ is_front_due due e.1 → now ≡ count_of b n → n + due_fronts due left ≡ all →
    now + due_fronts due es ≡ all
counted_more due e es left b n now all cut is counted sum =
    ap (λ k. k + due_fronts due es) (counted ∙ ap (λ f. count_of f n) is)
    ∙ count_first (is_front_due due e.1) n (due_fronts due es)
    ∙ ap (λ k. n + k) (sym (due_step due e es) ∙ ap (due_fronts due) (sym cut)) ∙ sum
