-- An honest event keeps the balance, whatever its class.
use Rattle.std.proofs.Common.{◌≡◌, ℕ, ◌≤◌, Bool, true, false, cond, not, ◌&&◌, ◌||◌, ◌⊎◌, inl, inr, ⊎_elim, List, [], ◌∷◌, ◌++◌, Option, refl, sym, ap, subst, ◌∙◌, true≢false}
use Rattle.std.specs.List.{AllByRecursion, list_any}
use Rattle.std.proofs.lemmas.Bool.{or_parts, or_left, both_ways, false_from_ne_true}
use Rattle.notify_types.specs.Event.{Timed}
use Rattle.notify_types.specs.Kinds.{is_creation, is_removal, is_skippable}
use Rattle.notify_paths.specs.Path.{PathValue, PartValue, path_eq, is_prefix}
use Rattle.notify_paths.specs.PathLaws.{path_eq_decides}
use Rattle.notify_types.specs.declared.kind.EventKind.{EventKind}
use Rattle.notify_types.specs.declared.kind.EventKind.TheVariants as kinds
use Rattle.debounce_model.specs.Honest.{has_folders}
use Rattle.debounce_model.specs.Play.{Paths, has_path, with_path, without_at}
use Rattle.debounce_model.specs.Queues.{Queues, push, removal, skips, was_created, events_at}
use Rattle.debounce_laws.proofs.BatchOrder.{not_removed}
use Rattle.debounce_laws.proofs.DueLists.{FirstOnly}
use Rattle.debounce_laws.proofs.Folders.{folder_found}
use Rattle.debounce_laws.proofs.ToldQueues.{creates_told}
use Rattle.debounce_laws.proofs.PathSets.{has_with, has_without, prefix_of, below_prefix, same_or_not, where_below}
use Rattle.debounce_laws.proofs.PathTests.{AtOrBelow}
use Rattle.debounce_laws.proofs.PlaceReads.{IsOwn, makes, clears}
use Rattle.debounce_laws.proofs.QueueKept.{all-at, all-push, all-removal, sorted_push, sorted_removal}
use Rattle.debounce_laws.proofs.QueueReads.{push_same, push_other, removal_same, removal_below, removal_other}
use Rattle.debounce_laws.proofs.ReaderBalance.{IsBalanced, time_of}
use Rattle.debounce_laws.proofs.WaitingCreations.{create_keeps}
use Rattle.debounce_laws.proofs.WaitingPlain.{plain_keeps, later_keeps}
use Rattle.debounce_laws.proofs.WaitingRemovals.{remove_keeps}

-- its first event is a creation
created_makes : (p : PathValue) (xs : List Timed) → AllByRecursion (IsOwn p) xs → was_created xs ≡ true →
    list_any makes xs ≡ true
created_makes p [] own h = h
created_makes p (x ∷ xs) own h = or_left (makes x) _ (creates_told x.event.kind own.0.1 h)

-- .. so it has no removal
created_clears_none : (p : PathValue) (xs : List Timed) → AllByRecursion (IsOwn p) xs → FirstOnly clears xs →
    was_created xs ≡ true → list_any clears xs ≡ false
created_clears_none p [] own first h = refl
created_clears_none p (x ∷ xs) own first h =
    let made : makes x ≡ true = creates_told x.event.kind own.0.1 h in
    let not_gone : clears x ≡ false = false_from_ne_true (clears x) (λ r. not_removed x.event.kind made r) in
    rw not_gone first

-- a creation is no plain event and no removal
creation_apart : (k : EventKind) → is_creation k ≡ true → is_removal k ≡ false
creation_apart (kinds.Create k) h = refl
creation_apart k h = absurd (true≢false (sym h))

-- a test and what fails
and_no : (a b : Bool) → b ≡ false → (a && b) ≡ false
and_no true b h = h
and_no false b h = refl

module _ (queues : Queues) (slot : Option Timed) (latest : ℕ) (reader raw : Paths)
    (b : IsBalanced queues slot latest reader raw) (a : PartValue) (p0 : PathValue) (x : Timed)
    (up : latest ≤ x.time) where
  -- the path that the event names
  abbrev p : PathValue
  p = a ∷ p0

  -- an honest creation keeps the balance
  pub balanced_creation : is_creation x.event.kind ≡ true → IsOwn p x → has_path raw p ≡ false →
      has_folders raw p ≡ true → IsBalanced (push queues p x) slot x.time reader (with_path raw p)
  balanced_creation made own absent folders = record {
    ordered = sorted_push queues p x b.ordered;
    own = all-push IsOwn queues p x b.own own;
    empty = b.empty;
    balance = create_keeps makes clears time_of latest (has_path reader) (has_path raw) (events_at queues)
        b.balance a p0 x made (creation_apart x.event.kind made) up (same_or_not p)
        (events_at (push queues p x)) (push_same queues p x
        ∙ ap (λ c. cond c (events_at queues p) (events_at queues p ++ x ∷ [])) unskipped)
        (λ q n. push_other queues p q x n)
        (has_path (with_path raw p)) (has_with raw p p ∙ or_left (path_eq p p) _ ((path_eq_decides p p).1 refl))
        others absent (λ d q below. folder_found (has_path raw) d q p folders below);
  }
    where
      none_waits : list_any makes (events_at queues p) ≡ false
      none_waits = (or_parts _ _ (sym (b.balance.law p) ∙ absent)).0

      unskipped : skips (events_at queues p) x.event.kind ≡ false
      unskipped = and_no (is_skippable x.event.kind) (was_created (events_at queues p))
          (false_from_ne_true
          _ (λ c. both_ways _ none_waits (created_makes p (events_at queues p) (all-at IsOwn queues p b.own)
          c)))

      others : (q : PathValue) → (q ≡ p → ⊥) → has_path (with_path raw p) q ≡ has_path raw q
      others q n = let apart : path_eq q p ≡ false =
          false_from_ne_true (path_eq q p) (λ e. n ((path_eq_decides q p).0 e)) in
          has_with raw p q ∙ ap (λ c. c || has_path raw q) apart

  -- an honest removal keeps the balance
  pub balanced_removal : is_removal x.event.kind ≡ true → IsOwn p x → has_path raw p ≡ true →
      IsBalanced (removal queues p x) slot x.time reader (without_at raw p)
  balanced_removal gone own present = record {
    ordered = sorted_removal queues p x b.ordered;
    own = all-removal IsOwn queues p x b.own own;
    empty = b.empty;
    balance = remove_keeps makes clears time_of latest (has_path reader) (has_path raw) (events_at queues)
        b.balance a p0 x gone (false_from_ne_true (makes x) (λ m. not_removed x.event.kind m gone)) up
        (where_below p)
        (was_created (events_at queues p)) (λ c. (
          created_makes p (events_at queues p) mine c,
          created_clears_none p (events_at queues p) mine (b.balance.first_only p) c,
        ))
        (events_at (removal queues p x)) (removal_same queues p x b.ordered) (λ r under. removal_below queues p
        r x under) (λ r n. removal_other queues p r x n)
        (has_path (without_at raw p)) (λ r below. has_without raw p r
        ∙ ap (λ c. not c && has_path raw r) (prefix_of p r below)) others present;
  }
    where
      mine : AllByRecursion (IsOwn p) (events_at queues p)
      mine = all-at IsOwn queues p b.own

      others : (r : PathValue) → (AtOrBelow p r → ⊥) → has_path (without_at raw p) r ≡ has_path raw r
      others r n = let apart : is_prefix p r ≡ false =
          false_from_ne_true (is_prefix p r) (λ e. n (below_prefix p r e)) in
          has_without raw p r ∙ ap (λ c. not c && has_path raw r) apart

  -- an event that neither creates nor removes keeps the balance where it is pushed
  pub balanced_plain : is_creation x.event.kind ≡ false → is_removal x.event.kind ≡ false → IsOwn p x →
      IsBalanced (push queues p x) slot x.time reader raw
  balanced_plain no_creation no_removal own = record {
    ordered = sorted_push queues p x b.ordered;
    own = all-push IsOwn queues p x b.own own;
    empty = b.empty;
    balance = plain_keeps makes clears time_of latest (has_path reader) (has_path raw) (events_at queues)
        b.balance x no_creation no_removal up (events_at (push queues p x)) each;
  }
    where
      at : (c : Bool) → events_at (push queues p x) p ≡ cond c (events_at queues p) (events_at queues p
          ++ x ∷ []) → (events_at (push queues p x) p ≡ events_at queues p) ⊎ (events_at (push queues p x) p
          ≡ events_at queues p ++ x ∷ [])
      at true e = inl e
      at false e = inr e

      each : (q : PathValue) →
          (events_at (push queues p x) q ≡ events_at queues q) ⊎ (events_at (push queues p x) q
          ≡ events_at queues q ++ x ∷ [])
      each q = ⊎_elim
          (λ e. subst (λ z. (events_at (push queues p x) z ≡ events_at queues z) ⊎
          (events_at (push queues p x) z ≡ events_at queues z ++ x ∷ [])) (sym e)
          (at (skips (events_at queues p) x.event.kind) (push_same queues p x)))
          (λ n. inl (push_other queues p q x n)) (same_or_not p q)

  -- an event that is ignored keeps the balance
  pub balanced_ignored : IsBalanced queues slot x.time reader raw
  balanced_ignored = record {
    ordered = b.ordered;
    own = b.own;
    empty = b.empty;
    balance = later_keeps makes clears time_of latest x.time (has_path reader) (has_path raw) (events_at queues)
        up b.balance;
  }
