-- No batch is a flood, and no more is emitted than was accepted.
use Rattle.std.proofs.Common.{◌≡◌, ℕ, ◌≤◌, ◌+◌, Bool, true, false, cond, not, ◌&&◌, List, [], ◌∷◌, map, refl, ap, sym, subst, ◌∙◌, Option, Some, None, is_some, is_eq, length, length-append, arith, true≢false}
use Rattle.std.specs.List.{AllByRecursion, list_any, sum_by, count_by}
use Rattle.std.specs.List.Sorted.{IsStrictlySortedBy}
use Rattle.std.specs.Map.{keys_of}
use Rattle.std.specs.declared.cmp.Ordering.TheVariants.{Less}
use Rattle.std.proofs.lemmas.Bool.{and_parts, or_parts, both_ways, false_from_ne_true}
use Rattle.std.proofs.lemmas.List.Sums.{sum_by-cons, sum_by-append}
use Rattle.std.proofs.lemmas.List.Sorted.{sum_by-IsPermutation}
use Rattle.notify_types.specs.Event.{EventValue, Timed}
use Rattle.notify_types.specs.KindNumbers.{kind_eq, kind_eq_decides}
use Rattle.notify_paths.specs.Path.{PathValue, path_cmp, path_eq}
use Rattle.notify_paths.specs.PathLaws.{path_eq_decides}
use Rattle.notify_types.specs.declared.kind.EventKind.{EventKind}
use Rattle.debounce_model.specs.declared.case.Case.{Case}
use Rattle.debounce_model.specs.declared.case.Case.TheVariants.{Rescan, Creation, Removal, RenameFrom, RenameTo, Plain, Ignored}
use Rattle.debounce_model.specs.declared.file_id.FileId.{FileId}
use Rattle.debounce_model.specs.Cache.{Rules}
use Rattle.debounce_model.specs.Command.{CommandValue, EventCommand, ErrorCommand, RootCommand, UnrootCommand, ErrorsCommand, TickCommand, ReplyValue, TakenReply, NotedReply, RootedReply, UnrootedReply, ErrorsReply, BatchReply, RefusedReply}
use Rattle.debounce_model.specs.Due.{expired_beginning, last_of_kind, place_list}
use Rattle.debounce_model.specs.Flood.{stands_at, is_of, HaveNoFlood, FloodsNowhere}
use Rattle.debounce_model.specs.Kept.{has_first}
use Rattle.debounce_model.specs.Order.{InBatchOrder, placed}
use Rattle.debounce_model.specs.PathsLaw.{emitted}
use Rattle.debounce_model.specs.Play.{accepted}
use Rattle.debounce_model.specs.Queues.{Queues}
use Rattle.debounce_model.specs.Run.{Run}
use Rattle.debounce_model.specs.State.{Core, State, held, waiting}
use Rattle.debounce_model.specs.Table.{case_of, taken_as, event_step, raised_event}
use Rattle.debounce_model.specs.Tick.{due_of, is_expired_in, state_places, IsBatch, ticked_state}
use Rattle.debounce_model.specs.WellFormed.{kept_by, IsFirst, IsKeyed, AreQueues, IsWellFormed}
use Rattle.debounce_model.proofs.OrderLemmas.{events-placed}
use Rattle.debounce_model.proofs.StateLemmas.{well_formed_event, well_formed-tick}
use Rattle.debounce_laws.proofs.DueLists.{each_weaken}
use Rattle.debounce_laws.proofs.FoundedBatches.{IsFlagged, flagged_rest, each-append, each-beginning, each-last_of_kind}
use Rattle.debounce_laws.proofs.FoundedSteps.{flagged-after}
use Rattle.debounce_laws.proofs.KeptLemmas.{accepted-cons}
use Rattle.debounce_laws.proofs.PathSets.{tied_to_itself}
use Rattle.debounce_laws.proofs.ReaderLaw.{emitted-cons}
use Rattle.debounce_laws.proofs.StateRuns.{StateStep, StateRun, state_run}

-- a sum over images
sum_by-images : {X Y : Type 0} (f : Y → ℕ) (g : X → Y) (xs : List X) → sum_by f (map g xs)
    ≡ sum_by (λ x. f (g x)) xs
sum_by-images f g [] = refl
sum_by-images f g (x ∷ xs) =
    sum_by-cons f (g x) (map g xs) ∙ ap (λ n. f (g x) + n) (sum_by-images f g xs)
    ∙ sym (sum_by-cons (λ x. f (g x)) x xs)

-- the first of these paths passes a test that the path passes which it is
first_passes : (test : PathValue → Bool) (p : PathValue) (ps : List PathValue) → IsFirst p ps →
    has_first test ps ≡ test p
first_passes test p [] h = absurd h
first_passes test p (q ∷ ps) h = ap test h

-- of three tests the middle one fails
and_middle : (a b c : Bool) → b ≡ false → (a && (b && c)) ≡ false
and_middle true b c h = rw h refl
and_middle false b c h = refl

module _ (path : PathValue) (kind : EventKind) where
  -- an event of the kind that stands at the path
  abbrev counts : Timed → Bool
  counts = is_of path kind

  -- none of these events does
  abbrev IsNone : List Timed → Type 0
  IsNone xs = AllByRecursion (λ x. counts x ≡ false) xs

  -- .. so none is counted
  none_counted : (xs : List Timed) → IsNone xs → count_by counts xs ≡ 0
  none_counted [] h = refl
  none_counted (x ∷ xs) h = sum_by-cons (λ x. cond (counts x) 1 0) x xs ∙ rw (h.0, none_counted xs h.1) refl

  -- an event that is counted is of the kind
  kind_counted : (x : Timed) → counts x ≡ true → kind ≡ x.event.kind
  kind_counted x h =
      let unflagged = and_parts (not (is_some x.event.attrs.flag)) _ h in
      let both = and_parts (stands_at path x) _ unflagged.1 in
      (kind_eq_decides kind x.event.kind).0 both.1

  -- two events that are counted have one kind
  kinds_counted : (x y : Timed) → counts x ≡ true → counts y ≡ true → kind_eq x.event.kind y.event.kind ≡ true
  kinds_counted x y a b =
      (kind_eq_decides x.event.kind y.event.kind).1 (sym (kind_counted x a) ∙ kind_counted y b)

  -- where none has the kind of one that is counted, none is
  none_beside : (x : Timed) (ys : List Timed) → counts x ≡ true →
      list_any (λ y. kind_eq x.event.kind y.event.kind) ys ≡ false → IsNone ys
  none_beside x [] h n = tt
  none_beside x (y ∷ ys) h n =
      let each = or_parts (kind_eq x.event.kind y.event.kind) _ n in (
        false_from_ne_true (counts y) (λ c. both_ways (kind_eq x.event.kind y.event.kind) each.0
            (kinds_counted x y h c)),
        none_beside x ys h each.1,
      )

  -- of the last of each kind at most one is counted
  last_counted : (xs : List Timed) → count_by counts (last_of_kind xs) ≤ 1
  last_counted [] = omega arith
  last_counted (x ∷ xs) = by (list_any (λ y. kind_eq x.event.kind y.event.kind) xs) refl (last_counted xs)
    where
      by : (b : Bool) → list_any (λ y. kind_eq x.event.kind y.event.kind) xs ≡ b →
          count_by counts (last_of_kind xs) ≤ 1 →
          count_by counts (cond b (last_of_kind xs) (x ∷ last_of_kind xs)) ≤ 1
      by true e more = more
      by false e more = at (counts x) refl
        where
          at : (c : Bool) → counts x ≡ c → count_by counts (x ∷ last_of_kind xs) ≤ 1
          at true c =
              let rest : count_by counts (last_of_kind xs) ≡ 0 = none_counted (last_of_kind xs)
              (each-last_of_kind (λ y. counts y ≡ false) xs (none_beside x xs c e)) in
              rw (sum_by-cons (λ y. cond (counts y) 1 0) x (last_of_kind xs), c, rest) (omega arith)
          at false c = rw (sum_by-cons (λ y. cond (counts y) 1 0) x (last_of_kind xs), c) (omega (arith, more))

  -- a queue of another path has none
  none_elsewhere : (p : PathValue) (q : List Timed) → path_eq p path ≡ false → IsKeyed p q → IsNone q
  none_elsewhere p q other keyed =
      each_weaken (λ x. IsFirst p (kept_by x)) (λ x. counts x ≡ false)
      (λ x first. and_middle (not (is_some x.event.attrs.flag)) (stands_at path x) (kind_eq kind x.event.kind)
      (first_passes (λ p. path_eq p path) p (kept_by x) first ∙ other)) q keyed

  module _ (due : Timed → Bool) where
    -- what goes out of a queue that has none
    none_out : (q : List Timed) → IsNone q → IsNone (last_of_kind (expired_beginning due q))
    none_out q n = each-last_of_kind (λ x. counts x ≡ false) (expired_beginning due q)
        (each-beginning (λ x. counts x ≡ false) due q n)

    -- what goes out of queues of other paths
    none_placed : (queues : Queues) → AreQueues queues →
        AllByRecursion (λ k. path_eq k path ≡ false) (keys_of queues) → IsNone (place_list due queues)
    none_placed [] a others = tt
    none_placed (e ∷ queues) a others =
        each-append (λ x. counts x ≡ false) (last_of_kind (expired_beginning due e.1)) (place_list due queues)
        (none_out e.1 (none_elsewhere e.0 e.1 others.0 a.0.1)) (none_placed queues a.1 others.1)

    -- the paths after one are others
    others_after : (p : PathValue) (ks : List PathValue) → path_eq p path ≡ true →
        AllByRecursion (λ k. path_cmp p k ≡ Less) ks → AllByRecursion (λ k. path_eq k path ≡ false) ks
    others_after p ks same less =
        each_weaken (λ k. path_cmp p k ≡ Less) (λ k. path_eq k path ≡ false)
        (λ k below. false_from_ne_true (path_eq k path) (λ e. true≢false (sym (tied_to_itself p)
        ∙ ap is_eq (subst (λ q. path_cmp p q ≡ Less) ((path_eq_decides k path).0 e
        ∙ sym ((path_eq_decides p path).0 same)) below)))) ks less

    -- of what goes out at most one is counted
    placed_counted : (queues : Queues) → AreQueues queues → IsStrictlySortedBy path_cmp (keys_of queues) →
        count_by counts (place_list due queues) ≤ 1
    unfolding IsStrictlySortedBy
    placed_counted [] a s = omega arith
    placed_counted (e ∷ queues) a s = rw split (by (path_eq e.0 path) refl (placed_counted queues a.1 s.1))
      where
        out : List Timed
        out = last_of_kind (expired_beginning due e.1)

        split : count_by counts (place_list due (e ∷ queues))
            ≡ count_by counts out + count_by counts (place_list due queues)
        split = sum_by-append (λ x. cond (counts x) 1 0) out (place_list due queues)

        by : (b : Bool) → path_eq e.0 path ≡ b → count_by counts (place_list due queues) ≤ 1 →
            count_by counts out + count_by counts (place_list due queues) ≤ 1
        by true here more =
            let rest = none_counted (place_list due queues)
            (none_placed queues a.1 (others_after e.0 (keys_of queues) here s.0)) in
            omega (arith, rest, last_counted (expired_beginning due e.1))
        by false other more =
            let none = none_counted out (none_out e.1 (none_elsewhere e.0 e.1 other a.0.1)) in
            omega (arith, none, more)

    -- the event of the rescan slot isn't counted
    slot_uncounted : (slot : Option Timed) → IsFlagged slot → IsNone (due_of due slot)
    slot_uncounted None h = tt
    slot_uncounted (Some x) h = by (due x)
      where
        by : (b : Bool) → IsNone (cond b (x ∷ []) [])
        by true = (rw h refl, tt)
        by false = tt

  -- a batch counts as its place list does
  batch_counted : (xs batch : List Timed) → InBatchOrder xs batch → count_by counts batch ≡ count_by counts xs
  batch_counted xs batch o =
      let f : Timed → ℕ = λ x. cond (counts x) 1 0 in
      ap (sum_by f) (sym o.events) ∙ sum_by-images f (λ k. k.event) o.ranked
      ∙ sum_by-IsPermutation (λ k. f k.event) (placed [] xs) o.ranked o.are
      ∙ sym (sum_by-images f (λ k. k.event) (placed [] xs)) ∙ ap (sum_by f) (events-placed [] xs)

  -- of a batch at most one event is counted
  tick_counted : (s : State) (now : ℕ) (batch : List Timed) → IsWellFormed s → IsFlagged s.rescan_slot →
      IsBatch s now batch → count_by counts batch ≤ 1
  tick_counted s now batch w flagged b =
      let due = is_expired_in s now in
      let slot = none_counted (due_of due s.rescan_slot) (slot_uncounted due s.rescan_slot flagged) in
      rw (
        batch_counted (state_places due s) batch b,
        sum_by-append (λ x. cond (counts x) 1 0) (due_of due s.rescan_slot) (place_list due s.queues),
      ) (omega (arith, slot, placed_counted due s.queues w.queues w.ordered))

-- a state whose counts are these
abbrev recounted : State → ℕ → ℕ → State
recounted s taken given = record s { taken = taken; given = given }

-- what waits after an event doesn't depend on the counts before it
recounted_waits : (case : Case) (s : State) (n m : ℕ) (x : Timed) (answer : Option FileId) →
    waiting (taken_as case (recounted s n m) x answer) ≡ waiting (taken_as case s x answer)
recounted_waits Rescan s n m x answer = refl
recounted_waits Creation s n m x answer = refl
recounted_waits Removal s n m x answer = refl
recounted_waits RenameFrom s n m x answer = refl
recounted_waits RenameTo s n m x answer = refl
recounted_waits Plain s n m x answer = refl
recounted_waits Ignored s n m x answer = refl

-- .. nor what was given, which stays
recounted_given : (case : Case) (s : State) (x : Timed) (answer : Option FileId) →
    (taken_as case s x answer).given ≡ s.given
recounted_given Rescan s x answer = refl
recounted_given Creation s x answer = refl
recounted_given Removal s x answer = refl
recounted_given RenameFrom s x answer = refl
recounted_given RenameTo s x answer = refl
recounted_given Plain s x answer = refl
recounted_given Ignored s x answer = refl

-- a well-formed state of which the counts begin anew
well_formed-recounted : (s : State) → IsWellFormed s → IsWellFormed (recounted s (waiting s) 0)
well_formed-recounted s w = record { queues = w.queues; ordered = w.ordered; bounded = omega arith }

-- after an event at most one more waits
event_counted : (s : State) (event : EventValue) (now : ℕ) (exists : Bool) (answer : Option FileId) →
    IsWellFormed s → waiting (event_step s event now exists answer) ≤ waiting s + 1
event_counted s event now exists answer w =
    let x = raised_event s event now in
    let r = recounted s (waiting s) 0 in
    let case = case_of event exists in
    let after = well_formed_event r event now exists answer (well_formed-recounted s w) in
    omega (
      arith,
      after.bounded,
      recounted_waits case s (waiting s) 0 x answer,
      recounted_given case r x answer,
    )

-- what a tick emits and what waits on are no more than what waited
tick_bounded : (s : State) (now : ℕ) (batch : List Timed) → IsWellFormed s → IsBatch s now batch →
    waiting (ticked_state s now batch) + length batch ≤ waiting s
tick_bounded s now batch w b =
    omega (arith, (well_formed-tick (recounted s (waiting s) 0) now batch (well_formed-recounted s w) b).bounded)

-- what a step keeps of a state, and what it counts
record IsCounted (s t : State) (c : CommandValue) (y : ReplyValue) : Type 0 where
  laws : IsWellFormed t
  rescan : IsFlagged t.rescan_slot
  events : waiting t + length (emitted (y ∷ [])) ≤ waiting s + length (accepted (c ∷ []) (y ∷ []))

-- .. of a state with the same queues, rescan slot and counts
counted_same : (s t : State) (c : CommandValue) (y : ReplyValue) → emitted (y ∷ []) ≡ [] →
    t.queues ≡ s.queues → t.rescan_slot ≡ s.rescan_slot → t.taken ≡ s.taken → t.given ≡ s.given →
    IsWellFormed s → IsFlagged s.rescan_slot → IsCounted s t c y
counted_same s t c y none queues slot taken given w f = record {
  laws = record {
    queues = rw queues w.queues;
    ordered = rw queues w.ordered;
    bounded =
        rw (queues, slot, taken, given) w.bounded;
  };
  rescan = rw slot f;
  events = rw (queues, slot, none) (omega arith);
}

-- each step keeps that
counted_step : (s t : State) (c : CommandValue) (y : ReplyValue) → StateStep s c y t → IsWellFormed s →
    IsFlagged s.rescan_slot → IsCounted s t c y
counted_step s t (EventCommand event now exists) (TakenReply answer) h w f = record {
  laws = rw h (well_formed_event s event now exists answer w);
  rescan = rw h (flagged-after s (raised_event s event now) exists answer f);
  events = rw h (omega (arith, event_counted s event now exists answer w));
}
counted_step s t (EventCommand event now exists) (RefusedReply error) h w f =
    rw h (counted_same s s (EventCommand event now exists) (RefusedReply error) refl refl refl refl refl w f)
counted_step s t (ErrorCommand error) NotedReply h w f =
    rw h (counted_same s _ (ErrorCommand error) NotedReply refl refl refl refl refl w f)
counted_step s t (ErrorCommand error) (RefusedReply refusal) h w f =
    rw h (counted_same s s (ErrorCommand error) (RefusedReply refusal) refl refl refl refl refl w f)
counted_step s t (RootCommand path mode) RootedReply h w f =
    rw h (counted_same s _ (RootCommand path mode) RootedReply refl refl refl refl refl w f)
counted_step s t (RootCommand path mode) (RefusedReply error) h w f =
    rw h (counted_same s s (RootCommand path mode) (RefusedReply error) refl refl refl refl refl w f)
counted_step s t (UnrootCommand path) UnrootedReply h w f =
    rw h (counted_same s _ (UnrootCommand path) UnrootedReply refl refl refl refl refl w f)
counted_step s t (UnrootCommand path) (RefusedReply error) h w f =
    rw h (counted_same s s (UnrootCommand path) (RefusedReply error) refl refl refl refl refl w f)
counted_step s t ErrorsCommand (ErrorsReply errors) h w f =
    rw h (counted_same s _ ErrorsCommand (ErrorsReply errors) refl refl refl refl refl w f)
counted_step s t (TickCommand now) (BatchReply batch) h w f = record {
  laws = rw h.1 (well_formed-tick s now batch w h.0);
  rescan = rw h.1 (flagged_rest (is_expired_in s now) s.rescan_slot f);
  events = rw h.1 (omega (arith, tick_bounded s now batch w h.0, length-append batch []));
}
counted_step s t (TickCommand now) (RefusedReply error) h w f =
    rw h (counted_same s s (TickCommand now) (RefusedReply error) refl refl refl refl refl w f)
counted_step s t c y h w f = absurd h

-- the reply to a step is no flood, beside replies that are none
no_flood_before : (s t : State) (c : CommandValue) (y : ReplyValue) (ys : List ReplyValue) → StateStep s c y t →
    IsWellFormed s → IsFlagged s.rescan_slot → HaveNoFlood ys → HaveNoFlood (y ∷ ys)
no_flood_before s t (TickCommand now) (BatchReply batch) ys h w f n =
    ((λ path kind. tick_counted path kind s now batch w f h.0), n)
no_flood_before s t (EventCommand event now exists) (BatchReply batch) ys h w f n = absurd h
no_flood_before s t (ErrorCommand error) (BatchReply batch) ys h w f n = absurd h
no_flood_before s t (RootCommand path mode) (BatchReply batch) ys h w f n = absurd h
no_flood_before s t (UnrootCommand path) (BatchReply batch) ys h w f n = absurd h
no_flood_before s t ErrorsCommand (BatchReply batch) ys h w f n = absurd h
no_flood_before s t c y ys h w f n = n

-- a run emits no flood
flood_run : (s t : State) (cs : List CommandValue) (ys : List ReplyValue) → StateRun s cs ys t →
    IsWellFormed s → IsFlagged s.rescan_slot →
    HaveNoFlood ys × (waiting t + length (emitted ys) ≤ waiting s + length (accepted cs ys))
flood_run s t [] [] run w f = (tt, rw run (omega arith))
flood_run s t [] (y ∷ ys) run w f = absurd run
flood_run s t (c ∷ cs) [] run w f = absurd run
flood_run s t (c ∷ cs) (y ∷ ys) (m, step, more) w f =
    let first = counted_step s m c y step w f in
    let rest = flood_run m t cs ys more first.laws first.rescan in (
      no_flood_before s m c y ys step w f rest.0,
      rw (emitted-cons y ys, accepted-cons c y cs ys) (omega (
        arith,
        rest.1,
        first.events,
        length-append (emitted (y ∷ [])) (emitted ys),
        length-append (accepted (c ∷ []) (y ∷ [])) (accepted cs ys),
      )),
    )

-- a slot that holds nothing holds no event without the flag
flagged_none : (slot : Option Timed) → held slot ≡ 0 → IsFlagged slot
flagged_none None h = tt
flagged_none (Some x) h = absurd (omega arith)

-- a run from a state that waits for nothing emits no flood
pub state_floods_nowhere : (s t : State) (commands : List CommandValue) (replies : List ReplyValue) →
    IsWellFormed s → waiting s ≡ 0 → StateRun s commands replies t → FloodsNowhere commands replies t
state_floods_nowhere s t commands replies w none run =
    let whole = flood_run s t commands replies run w (flagged_none s.rescan_slot (omega (arith, none))) in
    record { batches = whole.0; events = omega (arith, whole.1, none) }

-- .. from a core that waits for nothing
pub run_floods_nowhere : {C : Type 0} (r : Rules C) (s t : Core C) (commands : List CommandValue)
    (replies : List ReplyValue) → IsWellFormed s.state → waiting s.state ≡ 0 → Run r s commands replies t →
    FloodsNowhere commands replies t.state
run_floods_nowhere r s t commands replies w none run =
    state_floods_nowhere s.state t.state commands replies w none (state_run r s t commands replies run)
