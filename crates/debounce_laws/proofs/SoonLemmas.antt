-- Nothing waits too long: after a tick nothing is due, and without renames each change is emitted in time.
use Rattle.std.proofs.Common.{◌≡◌, ℕ, ◌≤◌, ◌+◌, ◌-◌, max, nat_le, Bool, true, false, cond, not, ◌&&◌, ◌||◌, List, [], ◌∷◌, refl, ap, sym, subst, ◌∙◌, Option, Some, None, is_some, arith, true≢false}
use Rattle.std.specs.List.{AllByRecursion, list_any}
use Rattle.std.proofs.lemmas.Bool.{or_from, both_ways, false_from_ne_true, le-leb, leb-true, and_from}
use Rattle.notify_types.specs.Event.{EventValue, Timed}
use Rattle.notify_types.specs.Kinds.{is_creation, is_removal, is_plain}
use Rattle.notify_paths.specs.Path.{PathValue, is_prefix}
use Rattle.notify_types.specs.declared.kind.EventKind.{EventKind}
use Rattle.debounce_model.specs.declared.case.Case.{Case}
use Rattle.debounce_model.specs.declared.case.Case.TheVariants.{Rescan, Creation, Removal, RenameFrom, RenameTo, Plain, Ignored}
use Rattle.debounce_model.specs.declared.file_id.FileId.{FileId}
use Rattle.debounce_model.specs.Cache.{Rules}
use Rattle.debounce_model.specs.Command.{CommandValue, EventCommand, ErrorCommand, RootCommand, UnrootCommand, ErrorsCommand, TickCommand, ReplyValue, TakenReply, NotedReply, RootedReply, UnrootedReply, ErrorsReply, BatchReply, RefusedReply}
use Rattle.debounce_model.specs.Due.{rest_after, place_list, is_front_due, is_any_due, waits, rests}
use Rattle.debounce_model.specs.Kept.{tells_rename, has_rename, takes_away, tells_change, stands_for, is_among}
use Rattle.debounce_model.specs.Queues.{Queues, push, removal, events_at, waiting_in}
use Rattle.debounce_model.specs.Run.{Step, Run}
use Rattle.debounce_model.specs.Soon.{IsEachYoung, is_emitted_by, is_emitted_at, is_event_soon, is_soon}
use Rattle.debounce_model.specs.State.{Core, State, raised, waiting}
use Rattle.debounce_model.specs.Table.{case_of, taken_as, event_step, raised_event}
use Rattle.debounce_model.specs.Tick.{is_due, is_expired, is_expired_in, is_slot_due, rest_of, IsBatch, ticked_state}
use Rattle.debounce_laws.proofs.DueLists.{Rising, each_weaken, each_push, each_late, rising_push, rising_late, marks_gone}
use Rattle.debounce_laws.proofs.EachQueue.{Each, each-push, each-removal, each-rests, each-rested, each-at, each-none}
use Rattle.debounce_laws.proofs.KeptQueues.{found-push, found-removal, found-cuts}
use Rattle.debounce_laws.proofs.KeptSteps.{event_queues, told_first, tells_class, pathless_stays, change_found, among_batch, neither}
use Rattle.debounce_laws.proofs.StateRuns.{StateRun, state_run}
use Rattle.debounce_laws.proofs.ToldQueues.{IsTold, AreTold, AreAllTold, or_true}

-- the first event of what stays isn't due
front_stays : (due : Timed → Bool) (xs : List Timed) → is_front_due due (rest_after due xs) ≡ false
front_stays due [] = refl
front_stays due (x ∷ xs) = by (due x) refl (front_stays due xs)
  where
    by : (b : Bool) → due x ≡ b → is_front_due due (rest_after due xs) ≡ false →
        is_front_due due (cond b (rest_after due xs) (x ∷ xs)) ≡ false
    by true e more = more
    by false e more = e

-- of what waits on nothing is due
none_due : (due : Timed → Bool) (queues : Queues) → is_any_due due (rests due queues) ≡ false
none_due due [] = refl
none_due due (e ∷ queues) = by (waits (rest_after due e.1)) (none_due due queues)
  where
    by : (b : Bool) → is_any_due due (rests due queues) ≡ false →
        is_any_due due (cond b ((e.0, rest_after due e.1) ∷ rests due queues) (rests due queues)) ≡ false
    by true h = or_from _ _ (front_stays due e.1) h
    by false h = h

-- .. nor what stays in the slot
slot_not_due : (due : Timed → Bool) (slot : Option Timed) → is_slot_due due (rest_of due slot) ≡ false
slot_not_due due None = refl
slot_not_due due (Some x) = by (due x) refl
  where
    by : (b : Bool) → due x ≡ b → is_slot_due due (cond b None (Some x)) ≡ false
    by true e = refl
    by false e = e

-- the latest moment after a tick is that of the tick
same_moment : (latest now : ℕ) → max (max latest now) now ≡ max latest now
same_moment latest now = omega arith

-- after a tick nothing is due at its moment
pub nothing_due : (s : State) (now : ℕ) (batch : List Timed) → is_due (ticked_state s now batch) now ≡ false
nothing_due s now batch =
    subst (λ m. (is_slot_due (is_expired s.timeout m) (rest_of due s.rescan_slot)
    || is_any_due (is_expired s.timeout m) (rests due s.queues)) ≡ false) (sym (same_moment s.latest now))
    (or_from _ _ (slot_not_due due s.rescan_slot) (none_due due s.queues))
  where
    due : Timed → Bool
    due = is_expired_in s now

-- .. whatever the cache
pub step_leaves_nothing_due : {C : Type 0} (r : Rules C) (s t : Core C) (now : ℕ) (batch : List Timed) →
    Step r s (TickCommand now) (BatchReply batch) t → is_due t.state now ≡ false
step_leaves_nothing_due r s t now batch step = rw (ap (λ k. k.state) step.1) (nothing_due s.state now batch)

-- the events of a queue told its path, and came one after the other until this moment
record IsOrderly (latest : ℕ) (p : PathValue) (q : List Timed) : Type 0 where
  told : AreTold p q
  rising : Rising (λ x. x.time) q
  past : AllByRecursion (λ x. x.time ≤ latest) q

-- .. of each queue
abbrev AreOrderly : ℕ → Queues → Type 0
AreOrderly latest queues = Each (IsOrderly latest) queues

-- they did so until a later moment, too
orderly_later : (a b : ℕ) → a ≤ b → (queues : Queues) → AreOrderly a queues → AreOrderly b queues
orderly_later a b h queues o =
    each_weaken (λ e. IsOrderly a e.0 e.1) (λ e. IsOrderly b e.0 e.1) (λ e i. record {
      told = i.told;
      rising = i.rising;
      past =
          each_weaken (λ x. x.time ≤ a) (λ x. x.time ≤ b) (λ x u. omega (arith, u, h)) e.1 i.past;
    }) queues o

-- after a push of what came last
orderly_push : (latest : ℕ) (queues : Queues) (p : PathValue) (x : Timed) → latest ≤ x.time → IsTold p x →
    AreOrderly latest queues → AreOrderly x.time (push queues p x)
orderly_push latest queues p x h told o =
    each-push (IsOrderly x.time) queues p x (orderly_later latest x.time h queues o)
    (record { told = tt; rising = tt; past = tt }) (λ q i. record {
      told = each_push (IsTold p) q x i.told told;
      rising = rising_push (λ y. y.time) q x i.rising i.past;
      past = each_push (λ y. y.time ≤ x.time) q x i.past (omega arith);
    })

-- .. after such a removal
orderly_removal : (latest : ℕ) (queues : Queues) (p : PathValue) (x : Timed) → latest ≤ x.time → IsTold p x →
    AreOrderly latest queues → AreOrderly x.time (removal queues p x)
orderly_removal latest queues p x h told o =
    each-removal (IsOrderly x.time) queues p x (orderly_later latest x.time h queues o)
    (record { told = (told, tt); rising = (tt, tt); past = ((omega arith), tt) })

-- .. after a tick
orderly_rests : (latest : ℕ) (due : Timed → Bool) (queues : Queues) → AreOrderly latest queues →
    AreOrderly latest (rests due queues)
orderly_rests latest due queues o =
    each-rests (IsOrderly latest) due queues (λ p q i. record {
      told = each_late due (IsTold p) q i.told;
      rising = rising_late due (λ x. x.time) q i.rising;
      past = each_late due (λ x. x.time ≤ latest) q i.past;
    }) o

-- .. where nothing waits
orderly_none : (latest : ℕ) (queues : Queues) → waiting_in queues ≡ 0 → AreOrderly latest queues
orderly_none latest queues h =
    each-none (IsOrderly latest) queues (λ p. record { told = tt; rising = tt; past = tt }) h

-- queues that are orderly hold only what told something
orderly_told : (latest : ℕ) (queues : Queues) → AreOrderly latest queues → AreAllTold queues
orderly_told latest queues o =
    each_weaken (λ e. IsOrderly latest e.0 e.1) (λ e. AreTold e.0 e.1) (λ e i. i.told) queues o

-- an event leaves the timeout
timeout_stays : (case : Case) (s : State) (x : Timed) (answer : Option FileId) →
    (taken_as case s x answer).timeout ≡ s.timeout
timeout_stays Rescan s x answer = refl
timeout_stays Creation s x answer = refl
timeout_stays Removal s x answer = refl
timeout_stays RenameFrom s x answer = refl
timeout_stays RenameTo s x answer = refl
timeout_stays Plain s x answer = refl
timeout_stays Ignored s x answer = refl

module _ (s : State) (event : EventValue) (now : ℕ) (exists : Bool) (answer : Option FileId)
    (calm : tells_rename event ≡ false) where
  -- the event at the moment at which it is taken
  abbrev x : Timed
  x = raised_event s event now

  -- the state after it
  abbrev next : State
  next = event_step s event now exists answer

  -- what holds of the queues, after a push of the event and after a removal by it, holds after the event
  by_class : (P : Queues → Type 0) → P s.queues → ((p : PathValue) → IsTold p x → P (push s.queues p x)) →
      ((p : PathValue) (ps : List PathValue) → event.paths ≡ p ∷ ps → IsTold p x →
      is_removal event.kind ≡ true → P (removal s.queues p x)) → P next.queues
  by_class P same pushed removed = on event.paths refl
    where
      on : (ps : List PathValue) → event.paths ≡ ps → P next.queues
      on [] e = rw (pathless_stays s event now exists answer e) same
      on (p ∷ ps) e =
          rw (event_queues s event now exists answer p ps e calm) (at (is_some event.attrs.flag)
          (is_creation event.kind || is_plain event.kind) (is_removal event.kind) refl refl refl)
        where
          at : (f c r : Bool) → is_some event.attrs.flag ≡ f → (is_creation event.kind || is_plain event.kind)
              ≡ c → is_removal event.kind ≡ r →
              P (cond f s.queues (cond c (push s.queues p x) (cond r (removal s.queues p x) s.queues)))
          at true c r f k g = same
          at false true r f k g =
              pushed p (told_first s event now exists answer p ps e calm f (tells_class event.kind k))
          at false false true f k g =
              removed p ps e (told_first s event now exists answer p ps e calm f (rw g (or_true _))) g
          at false false false f k g = same

  -- orderly queues stay so
  orderly_event : AreOrderly s.latest s.queues → AreOrderly (raised s now) next.queues
  orderly_event o =
      by_class (AreOrderly (raised s now)) (orderly_later s.latest (raised s now) (omega arith) s.queues o)
      (λ p told. orderly_push s.latest s.queues p x (omega arith) told o)
      (λ p ps e told r. orderly_removal s.latest s.queues p x (omega arith) told o)

  -- what is found at a path is still found, unless the event takes the path away
  found_event : (path : PathValue) (f : Timed → Bool) → list_any f (events_at s.queues path) ≡ true →
      (takes_away path event || list_any f (events_at next.queues path)) ≡ true
  found_event path f h =
      by_class (λ q. (takes_away path event || list_any f (events_at q path)) ≡ true)
      (rw h (or_true (takes_away path event)))
      (λ p told. rw (found-push f path s.queues p x h) (or_true (takes_away path event)))
      (λ p ps e told r. at p ps e told r (is_prefix p path) refl)
    where
      at : (p : PathValue) (ps : List PathValue) → event.paths ≡ p ∷ ps → IsTold p x →
          is_removal event.kind ≡ true → (b : Bool) → is_prefix p path ≡ b →
          (takes_away path event || list_any f (events_at (removal s.queues p x) path)) ≡ true
      at p ps e told r true g = rw (told.unflagged, r, e, g) refl
      at p ps e told r false g = rw (found-removal f path s.queues p x g h) (or_true (takes_away path event))

-- what some event passes passes a test that each event which passes it also passes
any_also : (P : Timed → Type 0) (f g : Timed → Bool) → ((x : Timed) → P x → f x ≡ true → g x ≡ true) →
    (xs : List Timed) → AllByRecursion P xs → list_any f xs ≡ true → list_any g xs ≡ true
any_also P f g also [] all h = absurd (true≢false (sym h))
any_also P f g also (x ∷ xs) all h = by (f x) refl (any_also P f g also xs all.1)
  where
    by : (b : Bool) → f x ≡ b → (list_any f xs ≡ true → list_any g xs ≡ true) → list_any g (x ∷ xs) ≡ true
    by true e more = rw (also x all.0 e) refl
    by false e more = rw (more (rw e at h)) (or_true (g x))

-- where all that came until a moment is due, none of it waits on
module _ (due : Timed → Bool) (mono : (a b : Timed) → a.time ≤ b.time → due b ≡ true → due a ≡ true)
    (f : Timed → Bool) (ripe : (x : Timed) → f x ≡ true → due x ≡ true) where
  gone : (latest : ℕ) (queues : Queues) (path : PathValue) → AreOrderly latest queues →
      list_any f (events_at (rests due queues) path) ≡ false
  gone latest queues path o =
      each-at (λ p q. list_any f q ≡ false) (rests due queues) path
      (each-rested (λ p q. list_any f q ≡ false) due queues
      (each_weaken (λ e. IsOrderly latest e.0 e.1) (λ e. list_any f (rest_after due e.1) ≡ false)
      (λ e i. marks_gone due (λ x. x.time) mono f e.1 i.rising (each_ripe e.1)) queues o)) refl
    where
      each_ripe : (xs : List Timed) → AllByRecursion (λ x. f x ≡ true → due x ≡ true) xs
      each_ripe [] = tt
      each_ripe (x ∷ xs) = (ripe x, each_ripe xs)

-- an earlier event is expired if a later one is
expired_before : (timeout now : ℕ) (a b : Timed) → a.time ≤ b.time → is_expired timeout now b ≡ true →
    is_expired timeout now a ≡ true
expired_before timeout now a b up h =
    let old : timeout ≤ now - b.time = leb-true timeout (now - b.time) h in
    le-leb timeout (now - a.time) (omega (arith, old, up))

module _ (path : PathValue) (kind : EventKind) (came moment : ℕ) where
  -- an event that stands for the change, and came no later than it
  abbrev stands_by : Timed → Bool
  stands_by x = nat_le x.time came && stands_for kind x

  -- .. it stands for the change
  stands : (x : Timed) → stands_by x ≡ true → stands_for kind x ≡ true
  stands x h = by (nat_le x.time came) h
    where
      by : (b : Bool) → (b && stands_for kind x) ≡ true → stands_for kind x ≡ true
      by true g = g
      by false g = absurd (true≢false (sym g))

  -- .. and came no later
  came_by : (x : Timed) → stands_by x ≡ true → x.time ≤ came
  came_by x h = by (nat_le x.time came) refl h
    where
      by : (b : Bool) → nat_le x.time came ≡ b → (b && stands_for kind x) ≡ true → x.time ≤ came
      by true e g = leb-true x.time came e
      by false e g = absurd (true≢false (sym g))

  -- once the change is as old as the timeout, what stands for it so is expired
  ripe_by : (timeout now : ℕ) → came + timeout ≤ moment → moment ≤ now → (x : Timed) → stands_by x ≡ true →
      is_expired timeout now x ≡ true
  ripe_by timeout now old late x h =
      let early = came_by x h in
      le-leb timeout (now - x.time) (omega (arith, early, old, late))

  -- a tick emits what stands for the change, or it is no tick of the moment or later, and leaves it
  tick_emits : (s : State) (now : ℕ) (batch : List Timed) → IsBatch s now batch → AreOrderly s.latest s.queues →
      came + s.timeout ≤ moment → list_any stands_by (events_at s.queues path) ≡ true →
      (rest : Bool) → (list_any stands_by (events_at (ticked_state s now batch).queues path) ≡ true → rest ≡ true) →
      (is_among path kind batch || (not (nat_le moment (max s.latest now)) && rest)) ≡ true
  tick_emits s now batch b o old h rest more =
      by (is_among path kind batch) refl (nat_le moment (max s.latest now)) refl
    where
      due : Timed → Bool
      due = is_expired_in s now

      stays : Bool
      stays = list_any stands_by (events_at (rests due s.queues) path)

      left : is_among path kind batch ≡ false → stays ≡ true
      left none = at stays (is_among path kind (place_list due s.queues)) refl refl
          (found-cuts path kind stands_by stands due s.queues (orderly_told s.latest s.queues o) h)
        where
          at : (a p : Bool) → stays ≡ a → is_among path kind (place_list due s.queues) ≡ p → (a || p) ≡ true →
              a ≡ true
          at true p e f g = refl
          at false true e f g = absurd (true≢false (sym (among_batch s now batch path kind b f) ∙ none))
          at false false e f g = g

      by : (a : Bool) → is_among path kind batch ≡ a → (l : Bool) → nat_le moment (max s.latest now) ≡ l →
          (a || (not l && rest)) ≡ true
      by true e l f = refl
      by false e false f = more (left e)
      by false e true f =
          absurd (true≢false (sym (left e) ∙ gone due (expired_before s.timeout (raised s now)) stands_by
          (ripe_by s.timeout (raised s now) old (leb-true moment (raised s now) f)) s.latest s.queues path o))

  -- one of two passes, where the second leads to a third
  either : (a b c : Bool) → (a || b) ≡ true → (b ≡ true → c ≡ true) → (a || c) ≡ true
  either true b c h more = refl
  either false b c h more = more h

  -- what stands for the change is emitted by the first tick of the moment or later
  carried : (s t : State) (cs : List CommandValue) (ys : List ReplyValue) → StateRun s cs ys t →
      AreOrderly s.latest s.queues → has_rename cs ys ≡ false → came + s.timeout ≤ moment →
      list_any stands_by (events_at s.queues path) ≡ true →
      is_emitted_by moment path kind s.latest cs ys ≡ true
  carried s t [] [] run o calm old h = refl
  carried s t [] (y ∷ ys) run o calm old h = absurd run
  carried s t (c ∷ cs) [] run o calm old h = absurd run
  carried s t (EventCommand event now exists ∷ cs) (TakenReply answer ∷ ys) (m, step, more) o calm old h =
      let parts = neither (tells_rename event) (has_rename cs ys) calm in
      either (takes_away path event) _ _ (found_event s event now exists answer parts.0 path stands_by h)
      (carried (event_step s event now exists answer) t cs ys (subst (λ (k : State). StateRun k cs ys t) step more)
      (orderly_event s event now exists answer parts.0 o) parts.1
      (rw (timeout_stays (case_of event exists) s (raised_event s event now) answer) old))
  carried s t (TickCommand now ∷ cs) (BatchReply batch ∷ ys) (m, step, more) o calm old h =
      tick_emits s now batch step.0 o old h (is_emitted_by moment path kind (max s.latest now) cs ys)
      (λ g. carried (ticked_state s now batch) t cs ys (subst (λ (k : State). StateRun k cs ys t) step.1 more)
      (orderly_rests (raised s now) (is_expired_in s now) s.queues
      (orderly_later s.latest (raised s now) (omega arith) s.queues o)) calm old g)
  carried s t (EventCommand event now exists ∷ cs) (RefusedReply error ∷ ys) (m, step, more) o calm old h =
      carried s t cs ys (subst (λ (k : State). StateRun k cs ys t) step more) o calm old h
  carried s t (ErrorCommand error ∷ cs) (NotedReply ∷ ys) (m, step, more) o calm old h =
      carried _ t cs ys (subst (λ (k : State). StateRun k cs ys t) step more) o calm old h
  carried s t (ErrorCommand error ∷ cs) (RefusedReply refusal ∷ ys) (m, step, more) o calm old h =
      carried s t cs ys (subst (λ (k : State). StateRun k cs ys t) step more) o calm old h
  carried s t (RootCommand root mode ∷ cs) (RootedReply ∷ ys) (m, step, more) o calm old h =
      carried _ t cs ys (subst (λ (k : State). StateRun k cs ys t) step more) o calm old h
  carried s t (RootCommand root mode ∷ cs) (RefusedReply error ∷ ys) (m, step, more) o calm old h =
      carried s t cs ys (subst (λ (k : State). StateRun k cs ys t) step more) o calm old h
  carried s t (UnrootCommand root ∷ cs) (UnrootedReply ∷ ys) (m, step, more) o calm old h =
      carried _ t cs ys (subst (λ (k : State). StateRun k cs ys t) step more) o calm old h
  carried s t (UnrootCommand root ∷ cs) (RefusedReply error ∷ ys) (m, step, more) o calm old h =
      carried s t cs ys (subst (λ (k : State). StateRun k cs ys t) step more) o calm old h
  carried s t (ErrorsCommand ∷ cs) (ErrorsReply errors ∷ ys) (m, step, more) o calm old h =
      carried _ t cs ys (subst (λ (k : State). StateRun k cs ys t) step more) o calm old h
  carried s t (TickCommand now ∷ cs) (RefusedReply error ∷ ys) (m, step, more) o calm old h =
      carried s t cs ys (subst (λ (k : State). StateRun k cs ys t) step more) o calm old h
  carried s t (c ∷ cs) (y ∷ ys) (m, step, more) o calm old h = absurd step

-- the change that an event told is emitted in time
event_soon : (s t : State) (event : EventValue) (now : ℕ) (exists : Bool) (answer : Option FileId)
    (cs : List CommandValue) (ys : List ReplyValue) → StateRun (event_step s event now exists answer) cs ys t →
    AreOrderly s.latest s.queues → tells_rename event ≡ false → has_rename cs ys ≡ false →
    is_event_soon s.timeout event (raised s now) cs ys ≡ true
event_soon s t event now exists answer cs ys run o calm rest = by (tells_change event) refl event.paths refl
  where
    next : State
    next = event_step s event now exists answer

    after : AreOrderly (raised s now) next.queues
    after = orderly_event s event now exists answer calm o

    stay : next.timeout ≡ s.timeout
    stay = timeout_stays (case_of event exists) s (raised_event s event now) answer

    by : (b : Bool) → tells_change event ≡ b → (ps : List PathValue) → event.paths ≡ ps →
        cond b (is_emitted_at (raised s now + s.timeout) ps event.kind (raised s now) cs ys) true ≡ true
    by false h ps e = refl
    by true h [] e = refl
    by true h (p ∷ ps) e =
        let there = change_found s event now exists answer p ps e calm h (orderly_told s.latest s.queues o) in
        carried p event.kind (raised s now) (raised s now + s.timeout) next t cs ys run after rest
        (omega (arith, stay))
        (any_also (λ x. x.time ≤ raised s now) (stands_for event.kind) (stands_by p event.kind (raised s now) 0)
        (λ x early fits. rw (le-leb x.time (raised s now) early, fits) refl) (events_at next.queues p)
        (each-at (λ q xs. AllByRecursion (λ x. x.time ≤ raised s now) xs) next.queues p
        (each_weaken (λ k. IsOrderly (raised s now) k.0 k.1)
        (λ k. AllByRecursion (λ x. x.time ≤ raised s now) k.1) (λ k i. i.past) next.queues after) tt) there)

-- each change that the events of a run told is emitted in time, where the queues are orderly
soon : (s t : State) (cs : List CommandValue) (ys : List ReplyValue) → StateRun s cs ys t →
    AreOrderly s.latest s.queues → has_rename cs ys ≡ false → is_soon s.timeout s.latest cs ys ≡ true
soon s t [] [] run o calm = refl
soon s t [] (y ∷ ys) run o calm = absurd run
soon s t (c ∷ cs) [] run o calm = absurd run
soon s t (EventCommand event now exists ∷ cs) (TakenReply answer ∷ ys) (m, step, more) o calm =
    let parts = neither (tells_rename event) (has_rename cs ys) calm in
    let next : State = event_step s event now exists answer in
    let run : StateRun next cs ys t = subst (λ (k : State). StateRun k cs ys t) step more in
    and_from _ _ (event_soon s t event now exists answer cs ys run o parts.0 parts.1)
    (subst (λ n. is_soon n (raised s now) cs ys ≡ true)
    (timeout_stays (case_of event exists) s (raised_event s event now) answer)
    (soon next t cs ys run (orderly_event s event now exists answer parts.0 o) parts.1))
soon s t (TickCommand now ∷ cs) (BatchReply batch ∷ ys) (m, step, more) o calm =
    soon (ticked_state s now batch) t cs ys (subst (λ (k : State). StateRun k cs ys t) step.1 more)
    (orderly_rests (raised s now) (is_expired_in s now) s.queues
    (orderly_later s.latest (raised s now) (omega arith) s.queues o)) calm
soon s t (EventCommand event now exists ∷ cs) (RefusedReply error ∷ ys) (m, step, more) o calm =
    soon s t cs ys (subst (λ (k : State). StateRun k cs ys t) step more) o calm
soon s t (ErrorCommand error ∷ cs) (NotedReply ∷ ys) (m, step, more) o calm =
    soon _ t cs ys (subst (λ (k : State). StateRun k cs ys t) step more) o calm
soon s t (ErrorCommand error ∷ cs) (RefusedReply refusal ∷ ys) (m, step, more) o calm =
    soon s t cs ys (subst (λ (k : State). StateRun k cs ys t) step more) o calm
soon s t (RootCommand root mode ∷ cs) (RootedReply ∷ ys) (m, step, more) o calm =
    soon _ t cs ys (subst (λ (k : State). StateRun k cs ys t) step more) o calm
soon s t (RootCommand root mode ∷ cs) (RefusedReply error ∷ ys) (m, step, more) o calm =
    soon s t cs ys (subst (λ (k : State). StateRun k cs ys t) step more) o calm
soon s t (UnrootCommand root ∷ cs) (UnrootedReply ∷ ys) (m, step, more) o calm =
    soon _ t cs ys (subst (λ (k : State). StateRun k cs ys t) step more) o calm
soon s t (UnrootCommand root ∷ cs) (RefusedReply error ∷ ys) (m, step, more) o calm =
    soon s t cs ys (subst (λ (k : State). StateRun k cs ys t) step more) o calm
soon s t (ErrorsCommand ∷ cs) (ErrorsReply errors ∷ ys) (m, step, more) o calm =
    soon _ t cs ys (subst (λ (k : State). StateRun k cs ys t) step more) o calm
soon s t (TickCommand now ∷ cs) (RefusedReply error ∷ ys) (m, step, more) o calm =
    soon s t cs ys (subst (λ (k : State). StateRun k cs ys t) step more) o calm
soon s t (c ∷ cs) (y ∷ ys) (m, step, more) o calm = absurd step

-- a run from a state that waits for nothing, without an accepted rename, emits each change in time
pub state_emits_soon : (s t : State) (commands : List CommandValue) (replies : List ReplyValue) →
    waiting s ≡ 0 → has_rename commands replies ≡ false → StateRun s commands replies t →
    is_soon s.timeout s.latest commands replies ≡ true
state_emits_soon s t commands replies h calm run =
    soon s t commands replies run (orderly_none s.latest s.queues (omega (arith, h))) calm

-- .. from a core that waits for nothing
pub run_emits_soon : {C : Type 0} (r : Rules C) (s t : Core C) (commands : List CommandValue)
    (replies : List ReplyValue) → waiting s.state ≡ 0 → has_rename commands replies ≡ false →
    Run r s commands replies t → is_soon s.state.timeout s.state.latest commands replies ≡ true
run_emits_soon r s t commands replies h calm run =
    state_emits_soon s.state t.state commands replies h calm (state_run r s t commands replies run)

-- what stays of a queue that is orderly isn't due
young_rest : (due : Timed → Bool) → ((a b : Timed) → a.time ≤ b.time → due b ≡ true → due a ≡ true) →
    (xs : List Timed) → Rising (λ x. x.time) xs → AllByRecursion (λ x. due x ≡ false) (rest_after due xs)
young_rest due mono [] up = tt
young_rest due mono (x ∷ xs) up = by (due x) refl (young_rest due mono xs up.1)
  where
    by : (b : Bool) → due x ≡ b → AllByRecursion (λ y. due y ≡ false) (rest_after due xs) →
        AllByRecursion (λ y. due y ≡ false) (cond b (rest_after due xs) (x ∷ xs))
    by true e more = more
    by false e more = (
      e,
      each_weaken (λ y. x.time ≤ y.time) (λ y. due y ≡ false)
          (λ y later. false_from_ne_true (due y) (λ ripe. both_ways (due x) e (mono x y later ripe))) xs up.0,
    )

-- a run without an accepted rename keeps the queues orderly
orderly_run : (s t : State) (cs : List CommandValue) (ys : List ReplyValue) → StateRun s cs ys t →
    AreOrderly s.latest s.queues → has_rename cs ys ≡ false → AreOrderly t.latest t.queues
orderly_run s t [] [] run o calm = rw run o
orderly_run s t [] (y ∷ ys) run o calm = absurd run
orderly_run s t (c ∷ cs) [] run o calm = absurd run
orderly_run s t (EventCommand event now exists ∷ cs) (TakenReply answer ∷ ys) (m, step, more) o calm =
    let parts = neither (tells_rename event) (has_rename cs ys) calm in
    orderly_run (event_step s event now exists answer) t cs ys
    (subst (λ (k : State). StateRun k cs ys t) step more) (orderly_event s event now exists answer parts.0 o)
    parts.1
orderly_run s t (TickCommand now ∷ cs) (BatchReply batch ∷ ys) (m, step, more) o calm =
    orderly_run (ticked_state s now batch) t cs ys (subst (λ (k : State). StateRun k cs ys t) step.1 more)
    (orderly_rests (raised s now) (is_expired_in s now) s.queues
    (orderly_later s.latest (raised s now) (omega arith) s.queues o)) calm
orderly_run s t (EventCommand event now exists ∷ cs) (RefusedReply error ∷ ys) (m, step, more) o calm =
    orderly_run s t cs ys (subst (λ (k : State). StateRun k cs ys t) step more) o calm
orderly_run s t (ErrorCommand error ∷ cs) (NotedReply ∷ ys) (m, step, more) o calm =
    orderly_run _ t cs ys (subst (λ (k : State). StateRun k cs ys t) step more) o calm
orderly_run s t (ErrorCommand error ∷ cs) (RefusedReply refusal ∷ ys) (m, step, more) o calm =
    orderly_run s t cs ys (subst (λ (k : State). StateRun k cs ys t) step more) o calm
orderly_run s t (RootCommand root mode ∷ cs) (RootedReply ∷ ys) (m, step, more) o calm =
    orderly_run _ t cs ys (subst (λ (k : State). StateRun k cs ys t) step more) o calm
orderly_run s t (RootCommand root mode ∷ cs) (RefusedReply error ∷ ys) (m, step, more) o calm =
    orderly_run s t cs ys (subst (λ (k : State). StateRun k cs ys t) step more) o calm
orderly_run s t (UnrootCommand root ∷ cs) (UnrootedReply ∷ ys) (m, step, more) o calm =
    orderly_run _ t cs ys (subst (λ (k : State). StateRun k cs ys t) step more) o calm
orderly_run s t (UnrootCommand root ∷ cs) (RefusedReply error ∷ ys) (m, step, more) o calm =
    orderly_run s t cs ys (subst (λ (k : State). StateRun k cs ys t) step more) o calm
orderly_run s t (ErrorsCommand ∷ cs) (ErrorsReply errors ∷ ys) (m, step, more) o calm =
    orderly_run _ t cs ys (subst (λ (k : State). StateRun k cs ys t) step more) o calm
orderly_run s t (TickCommand now ∷ cs) (RefusedReply error ∷ ys) (m, step, more) o calm =
    orderly_run s t cs ys (subst (λ (k : State). StateRun k cs ys t) step more) o calm
orderly_run s t (c ∷ cs) (y ∷ ys) (m, step, more) o calm = absurd step

-- after a run without an accepted rename, and a tick, each event that waits is young
state_leaves_young : (s m : State) (commands : List CommandValue) (replies : List ReplyValue) →
    waiting s ≡ 0 → has_rename commands replies ≡ false → StateRun s commands replies m → (now : ℕ)
    (batch : List Timed) → IsEachYoung (ticked_state m now batch)
state_leaves_young s m commands replies h calm run now batch =
    each-rested (λ p q. AllByRecursion (λ x. due x ≡ false) q) due m.queues
    (each_weaken (λ e. IsOrderly m.latest e.0 e.1) (λ e. AllByRecursion (λ x. due x ≡ false) (rest_after due e.1))
    (λ e i. young_rest due (expired_before m.timeout (raised m now)) e.1 i.rising) m.queues
    (orderly_run s m commands replies run (orderly_none s.latest s.queues (omega (arith, h))) calm))
  where
    due : Timed → Bool
    due = is_expired_in m now

-- .. from a core that waits for nothing
pub run_leaves_young : {C : Type 0} (r : Rules C) (s m t : Core C) (commands : List CommandValue)
    (replies : List ReplyValue) (now : ℕ) (batch : List Timed) → waiting s.state ≡ 0 →
    has_rename commands replies ≡ false → Run r s commands replies m →
    Step r m (TickCommand now) (BatchReply batch) t → IsEachYoung t.state
run_leaves_young r s m t commands replies now batch h calm run step =
    rw (ap (λ k. k.state) step.1) (state_leaves_young s.state m.state commands replies h calm
    (state_run r s m commands replies run) now batch)
