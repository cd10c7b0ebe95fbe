-- What is emitted of the queues at the paths that are due is what is emitted of all queues; so are the later fronts.
use Rattle.std.proofs.Common.{◌≡◌, ℕ, Bool, true, false, cond, ◌||◌, refl, ap, sym, ◌∙◌, Option, Some, None, List, [], ◌∷◌, ◌++◌, is_some}
use Rattle.std.specs.Prelude.{filter}
use Rattle.std.specs.Ordering.{is_eq, ordering_reverse}
use Rattle.std.specs.Cmp.{eq_by_cmp_equiv}
use Rattle.std.specs.declared.cmp.Ordering.{Ordering}
use Rattle.std.specs.declared.cmp.Ordering.TheVariants.{Less, Equal, Greater}
use Rattle.std.specs.BTreeMap.{is_at}
use Rattle.std.specs.BTreeSet.{BTreeSet, contains}
use Rattle.std.specs.List.{AllByRecursion, flat_map, list_any}
use Rattle.std.specs.List.Sorted.{IsStrictlySortedBy}
use Rattle.std.specs.Map.{keys_of}
use Rattle.std.proofs.lemmas.Map.Entries.{lookup-filter-values, option_filter}
use Rattle.std.proofs.lemmas.Map.Keys.{IsDistinct-from_sorted}
use Rattle.std.proofs.lemmas.Map.Lookups.{btree_set_from_contains}
use Rattle.std.proofs.lemmas.Map.Made.{is_some-lookup}
use Rattle.notify_paths.specs.Path.{PathValue, path_cmp}
use Rattle.notify_paths.specs.PathLaws.{path_cmp_total}
use Rattle.notify_types.specs.Event.{Timed}
use Rattle.notify_paths.proofs.Prefixes.{same_path}
use Rattle.debounce_model.specs.Queues.{Queues, queue_at}
use Rattle.debounce_model.specs.Due.{is_front_due, expired_beginning, last_of_kind, place_list, rest_after}
use Rattle.debounce_model.proofs.Entries.{sorted-filter}
use Rattle.debounce_queues.specs.declared.due.Due.{Due}
use Rattle.debounce_queues.specs.Due.{is_due}
use Rattle.debounce_queues.specs.Fronts.{front_time}
use Rattle.debounce_queues.specs.Steps.{AreLater, ArePathsDue, is_due_front, emitted_of, emitted_at, front_after, has_pair, later_pair, pair_of}
use Rattle.debounce_queues.proofs.FrontTicks.{all_found}
use Rattle.debounce_queues.proofs.FrontWhole.{later_all}

-- the queues that are due
abbrev due_of : Due → Queues → Queues
due_of due es = filter (λ e. is_front_due (is_due due) e.1) es

-- a path has one of them where its queue is due
due_found : (due : Due) (es : Queues) → IsStrictlySortedBy path_cmp (keys_of es) → (p : PathValue) →
    list_any (is_at (path_cmp p)) (keys_of (due_of due es)) ≡ is_due_front due (queue_at es p)
due_found due es s p =
    sym (is_some-lookup (is_at (path_cmp p)) (due_of due es))
    ∙ ap is_some (lookup-filter-values (eq_by_cmp_equiv path_cmp_total) (λ q. is_front_due (is_due due) q) p es
    (IsDistinct-from_sorted path_cmp (keys_of es) s))
    ∙ by (queue_at es p)
  where
    by : (o : Option (List Timed)) → is_some (option_filter (λ q. is_front_due (is_due due) q) o)
        ≡ is_due_front due o
    by None = refl
    by (Some q) = at (is_front_due (is_due due) q) refl
      where
        at : (b : Bool) → is_front_due (is_due due) q ≡ b →
            is_some (option_filter (λ q. is_front_due (is_due due) q) (Some q)) ≡ b
        at true e = rw e refl
        at false e = rw e refl

-- a queue that is not due emits nothing
none_handed : (due : Timed → Bool) (q : List Timed) → is_front_due due q ≡ false →
    last_of_kind (expired_beginning due q) ≡ []
none_handed due [] h = refl
none_handed due (x ∷ q) h = rw h refl

-- those that are due emit all
due_hand : (due : Due) (queues es : Queues) → AllByRecursion (λ e. queue_at queues e.0 ≡ Some e.1) es →
    emitted_at due queues (keys_of (due_of due es)) ≡ place_list (is_due due) es
due_hand due queues [] f = refl
due_hand due queues (e ∷ es) f = by (is_front_due (is_due due) e.1) refl (due_hand due queues es f.1)
  where
    by : (b : Bool) → is_front_due (is_due due) e.1 ≡ b → emitted_at due queues (keys_of (due_of due es))
        ≡ place_list (is_due due) es →
        emitted_at due queues (keys_of (cond b (e ∷ due_of due es) (due_of due es)))
        ≡ last_of_kind (expired_beginning (is_due due) e.1) ++ place_list (is_due due) es
    by true d more = ap (λ o. emitted_of due o ++ emitted_at due queues (keys_of (due_of due es))) f.0
        ∙ ap (λ r. last_of_kind (expired_beginning (is_due due) e.1) ++ r) more
    by false d more = more ∙ ap (λ r. r ++ place_list (is_due due) es) (sym (none_handed (is_due due) e.1 d))

-- .. and have all later fronts
due_later : (due : Due) (queues es : Queues) → AllByRecursion (λ e. queue_at queues e.0 ≡ Some e.1) es →
    flat_map (λ p. pair_of (front_after due (queue_at queues p)) p) (keys_of (due_of due es))
    ≡ flat_map (later_pair due) es
due_later due queues [] f = refl
due_later due queues (e ∷ es) f = by (is_front_due (is_due due) e.1) refl (due_later due queues es f.1)
  where
    at : PathValue → List (ℕ × PathValue)
    at p = pair_of (front_after due (queue_at queues p)) p

    by : (b : Bool) → is_front_due (is_due due) e.1 ≡ b → flat_map at (keys_of (due_of due es))
        ≡ flat_map (later_pair due) es → flat_map at (keys_of (cond b (e ∷ due_of due es) (due_of due es)))
        ≡ cond b (pair_of (front_time (rest_after (is_due due) e.1)) e.0) [] ++ flat_map (later_pair due) es
    by true d more = ap (λ o. pair_of (front_after due o) e.0 ++ flat_map at (keys_of (due_of due es))) f.0
        ∙ ap (λ r. pair_of (front_time (rest_after (is_due due) e.1)) e.0 ++ r) more
    by false d more = more

module _ (due : Due) (paths : BTreeSet PathValue) (queues : Queues) (s : IsStrictlySortedBy path_cmp paths.keys)
    (t : IsStrictlySortedBy path_cmp (keys_of queues)) (h : ArePathsDue due queues paths) where
  -- the paths are the keys of the queues that are due
  due_keys : paths.keys ≡ keys_of (due_of due queues)
  due_keys = btree_set_from_contains path_cmp_total paths (record { keys = keys_of (due_of due queues) }) s
      (sorted-filter path_cmp_total (λ e. is_front_due (is_due due) e.1) queues t) (λ p. h p
      ∙ sym (due_found due queues t p)) same_path

  -- the paths that are due, in order, emit what all queues do
  pub emitted-all : emitted_at due queues paths.keys ≡ place_list (is_due due) queues
  emitted-all = ap (emitted_at due queues) due_keys
      ∙ due_hand due queues queues (all_found path_cmp_total queues t)

  -- .. and have all later fronts
  pub later-all : (later : List (ℕ × PathValue)) →
      later ≡ flat_map (λ p. pair_of (front_after due (queue_at queues p)) p) paths.keys →
      AreLater due queues later
  later-all later e t' p =
      ap (λ l. has_pair l t' p) (e
      ∙ ap (flat_map (λ p. pair_of (front_after due (queue_at queues p)) p)) due_keys
      ∙ due_later due queues queues (all_found path_cmp_total queues t))
      ∙ later_all due queues t t' p

-- one more path
pub path_step : (paths next : BTreeSet PathValue) (key path p : PathValue) → key ≡ path →
    ((q : PathValue) → contains path_cmp next q
    ≡ cond (is_at (path_cmp key) q) true (contains path_cmp paths q)) → contains path_cmp next p
    ≡ (contains path_cmp paths p || is_at (path_cmp p) path)
path_step paths next key path p e h =
    h p ∙ ap (λ b. cond b true (contains path_cmp paths p)) (ap (λ k. is_at (path_cmp k) p) e
    ∙ ap is_eq (path_cmp_total.antisymm path p) ∙ back (path_cmp p path))
    ∙ swap (is_at (path_cmp p) path) (contains path_cmp paths p)
  where
    back : (o : Ordering) → is_eq (ordering_reverse o) ≡ is_eq o
    back Less = refl
    back Equal = refl
    back Greater = refl

    swap : (a b : Bool) → cond a true b ≡ (b || a)
    swap true true = refl
    swap true false = refl
    swap false true = refl
    swap false false = refl
