-- What a reader has and what waits, in a state: a batch keeps the balance, and the outlook leaves the raw paths.
use Rattle.std.proofs.Common.{◌≡◌, ℕ, ◌≤◌, ◌-◌, Bool, true, not, ◌&&◌, ◌||◌, List, [], ◌∷◌, ◌++◌, Option, None, arith, refl, sym, ap, subst, ◌∙◌}
use Rattle.std.specs.Map.{keys_of}
use Rattle.std.specs.List.{AllByRecursion, list_any}
use Rattle.std.specs.List.Sorted.{IsStrictlySortedBy}
use Rattle.std.proofs.lemmas.Bool.{leb-true, le-leb}
use Rattle.notify_types.specs.Event.{Timed}
use Rattle.notify_paths.specs.Path.{PathValue, path_cmp}
use Rattle.notify_paths.specs.PathLaws.{path_cmp_total}
use Rattle.debounce_model.specs.Due.{expired_beginning, rest_after, place_list, rests, waits}
use Rattle.debounce_model.specs.Order.{InBatchOrder}
use Rattle.debounce_model.specs.Play.{Paths, has_path, play, events_of}
use Rattle.debounce_model.specs.Queues.{Queues, events_at}
use Rattle.debounce_model.specs.State.{State, raised}
use Rattle.debounce_model.specs.Tick.{is_expired, is_expired_in, due_of, rest_of, IsBatch, IsOutlook, ticked_state}
use Rattle.debounce_laws.proofs.BatchReads.{batch_here}
use Rattle.debounce_laws.proofs.DueLists.{FirstOnly}
use Rattle.debounce_model.proofs.Entries.{sorted-changed}
use Rattle.debounce_laws.proofs.PathTests.{covered}
use Rattle.debounce_laws.proofs.PlaceOrder.{removals_first, places_single, places_later}
use Rattle.debounce_laws.proofs.PlaceReads.{IsOwn, makes, clears, places_create, places_clear}
use Rattle.debounce_laws.proofs.PlayAt.{here_timed}
use Rattle.debounce_laws.proofs.QueueKept.{AllWaiting, all-rests, each_queue}
use Rattle.debounce_laws.proofs.QueueReads.{rests_at}
use Rattle.debounce_laws.proofs.WaitingLaw.{Balance}
use Rattle.debounce_laws.proofs.WaitingPlain.{later_keeps}
use Rattle.debounce_laws.proofs.WaitingTicks.{tick_keeps}

-- the time of an event
abbrev pub time_of : Timed → ℕ
time_of x = x.time

-- queues in order whose events name their path alone, and no rescan event: what the reader has and what waits are in
-- balance with the raw paths
pub record IsBalanced (queues : Queues) (slot : Option Timed) (latest : ℕ) (reader raw : Paths) : Type 0 where
  pub ordered : IsStrictlySortedBy path_cmp (keys_of queues)
  pub own : AllWaiting IsOwn queues
  pub empty : slot ≡ None
  pub balance : Balance makes clears time_of latest (has_path reader) (has_path raw) (events_at queues)

-- .. of a state
abbrev pub IsBalancedIn : State → Paths → Paths → Type 0
IsBalancedIn s reader raw = IsBalanced s.queues s.rescan_slot s.latest reader raw

module _ (queues : Queues) (slot : Option Timed) (latest : ℕ) (reader raw : Paths)
    (b : IsBalanced queues slot latest reader raw) (due : Timed → Bool) where
  -- what the reader has of a path after what is due
  abbrev shown : PathValue → Bool
  shown p = list_any makes (expired_beginning due (events_at queues p))
      || (has_path reader p
      && not (covered (λ q. list_any clears (expired_beginning due (events_at queues q))) p))

  -- a batch of what is due leaves the reader that
  pub batch_shown : (batch : List Timed) → InBatchOrder (place_list due queues) batch → (p : PathValue) →
      has_path (play reader (events_of batch)) p ≡ shown p
  batch_shown batch o p =
      let first : AllByRecursion (λ e. FirstOnly clears e.1) queues =
      each_queue (λ _. FirstOnly clears) queues (λ _. tt) b.ordered b.balance.first_only in
      here_timed reader p batch
      ∙ batch_here (place_list due queues) (removals_first due queues b.ordered b.own first)
      (places_single due queues b.own) (places_later due queues b.ordered b.own b.balance.child_later) p
      batch o (has_path reader p)
      ∙ (λ i. places_create due queues p b.ordered b.own i
      || (has_path reader p && not (places_clear due queues p b.ordered b.own i)))

  -- .. and what is not due waits in balance
  pub rests_balanced : (batch : List Timed) → InBatchOrder (place_list due queues) batch →
      ((x y : Timed) → x.time ≤ y.time → due y ≡ true → due x ≡ true) → (rest : Option Timed) → rest ≡ None →
      (m : ℕ) → latest ≤ m → IsBalanced (rests due queues) rest m (play reader (events_of batch)) raw
  rests_balanced batch o mono rest none m up = record {
    ordered = sorted-changed path_cmp_total (rest_after due) (λ q. waits (rest_after due q)) queues b.ordered;
    own = all-rests IsOwn due queues b.own;
    empty = none;
    balance =
        later_keeps makes clears time_of latest m (has_path (play reader (events_of batch))) (has_path raw)
        (events_at (rests due queues)) up
        (subst (λ G. Balance makes clears time_of latest (has_path (play reader (events_of batch)))
        (has_path raw) G) (λ i p. sym (rests_at due queues p b.ordered) i)
        (subst (λ D. Balance makes clears time_of latest D
        (has_path raw) (λ p. rest_after due (events_at queues p))) (λ i p. sym (batch_shown batch o p) i)
        (tick_keeps makes clears time_of due mono latest (has_path reader) (has_path raw) (events_at queues)
        b.balance)));
  }

-- what is no later than what is expired is expired
expired_before : (timeout now : ℕ) (x y : Timed) → x.time ≤ y.time → is_expired timeout now y ≡ true →
    is_expired timeout now x ≡ true
expired_before timeout now x y up h = let old : timeout ≤ now - y.time = leb-true timeout (now - y.time) h in
    le-leb timeout (now - x.time) (omega (arith, old, up))

-- a tick keeps the balance
pub balanced_tick : (s : State) (now : ℕ) (batch : List Timed) (reader raw : Paths) →
    IsBalancedIn s reader raw → IsBatch s now batch →
    IsBalancedIn (ticked_state s now batch) (play reader (events_of batch)) raw
balanced_tick s now batch reader raw b o =
    rests_balanced s.queues s.rescan_slot s.latest reader raw b (is_expired_in s now) batch
    (subst (λ slot. InBatchOrder (due_of (is_expired_in s now) slot
    ++ place_list (is_expired_in s now) s.queues) batch) b.empty o)
    (expired_before s.timeout (raised s now)) (rest_of (is_expired_in s now) s.rescan_slot)
    (ap (rest_of (is_expired_in s now)) b.empty) (raised s now) (omega arith)

-- where all is due, the beginning is the whole
all_due : (xs : List Timed) → expired_beginning (λ x. true) xs ≡ xs
all_due [] = refl
all_due (x ∷ xs) = ap (λ l. x ∷ l) (all_due xs)

-- the outlook leaves the reader the raw paths
pub outlook_shown : (s : State) (outlook : List Timed) (reader raw : Paths) → IsBalancedIn s reader raw →
    IsOutlook s outlook → (p : PathValue) → has_path (play reader (events_of outlook)) p ≡ has_path raw p
outlook_shown s outlook reader raw b o p =
    batch_shown s.queues s.rescan_slot s.latest reader raw b (λ x. true) outlook
    (subst (λ slot. InBatchOrder (due_of (λ x. true) slot ++ place_list (λ x. true) s.queues) outlook)
    b.empty o) p
    ∙ (λ i. list_any makes (all_due (events_at s.queues p) i)
    || (has_path reader p && not (covered (λ q. list_any clears (all_due (events_at s.queues q) i)) p)))
    ∙ sym (b.balance.law p)
