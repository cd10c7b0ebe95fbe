-- What a core with a table of numbers makes of itself, said of the numbers alone: what was taken out is dropped once a
-- step is made, and there again once it is refused.
use Rattle.std.proofs.Common.{◌≡◌, ◌∙◌, ℕ, Bool, None, Result, Ok, Err, OnOk, refl, sym, ap, inl}
use Rattle.notify_paths.specs.Errors.{ErrorKindValue, ErrorValue, FullKind, MemoryKind}
use Rattle.notify_paths.specs.Path.{PathValue}
use Rattle.notify_types.specs.Event.{EventValue}
use Rattle.notify_types.specs.declared.event.RecursiveMode.{RecursiveMode}
use Rattle.debounce_model.specs.declared.file_id.FileId.{FileId}
use Rattle.debounce_model.specs.Cache.{Roots, Plan, Answer, Make, Ask, Begins, Rules}
use Rattle.debounce_model.specs.Calls.{calls_of, root_calls, unroot_calls}
use Rattle.debounce_model.specs.Roots.{with_root, without_roots}
use Rattle.debounce_model.specs.State.{Core}
use Rattle.debounce_model.specs.Step.{IsRefused, IsRefusedFor, IsRerooted, IsRooted, IsRootRefused, IsTaken, IsUnrooted}
use Rattle.debounce_c.specs.Numbered.Marks.{IsNoneGone, Marks, marked, numbers_of, restored, said_core, settled, table_rules, with_mark, with_table}
use Rattle.debounce_c.specs.Numbered.Numbers.{Numbers, said_numbers, with_number, with_numbers, without_numbers}
use Rattle.debounce_c.proofs.NumberedLemmas.MarkLemmas.{numbers_of-insert, restored-none, settled-marked}
use Rattle.debounce_c.proofs.NumberedLemmas.SaidSteps.{IsSaid, begun-restored, said-event, said-root, said-unroot}

-- nothing is a beginning of each plan
begins-none : {C : Type 0} (r : Rules C) (plan : Plan) (c : C) → Begins r c plan c
begins-none r (Answer answer) c = refl
begins-none r (Make call next) c = inl refl
begins-none r (Ask path next) c = begins-none r (next (r.numbers c path)) c

-- an event that is taken, once what it took out is dropped
pub taken_said : (s m t : Core Marks) (old : Core Numbers) (event : EventValue) (now : ℕ) (exists : Bool) →
    IsNoneGone s.cache → said_core s ≡ old → t ≡ with_table m (settled m.cache) →
    IsTaken table_rules s event now exists m → IsTaken said_numbers old event now exists (said_core t)
taken_said s m t old event now exists none is left taken = rw (← is, left) (record {
  room = taken.room;
  state = taken.state;
  calls = said-event s.state event exists s.cache m.answer m.cache none taken.calls;
  visited = taken.visited;
})

-- a beginning of a plan, once what it took out is there again
back_again : (s m t : Core Marks) (old : Core Numbers) (plan : Plan) → IsNoneGone s.cache → said_core s ≡ old →
    t ≡ with_table m (restored m.cache) → m ≡ with_table s m.cache → Begins table_rules s.cache plan m.cache →
    said_core t ≡ old
back_again s m t old plan none is left same begun =
    let cache : restored m.cache ≡ s.cache =
    begun-restored plan s.cache m.cache begun ∙ restored-none s.cache none in
    let whole : t ≡ s =
    left ∙ ap (λ x. with_table m x) cache ∙ ap (λ (k : Core Marks). with_table k s.cache) same in
    ap said_core whole ∙ is

-- an event that is refused leaves all
pub refused_back : (s m t : Core Marks) (old : Core Numbers) (event : EventValue) (exists : Bool) (e : ErrorValue) →
    IsNoneGone s.cache → said_core s ≡ old → t ≡ with_table m (restored m.cache) →
    IsRefused table_rules s event exists e m → said_core t ≡ old
refused_back s m t old event exists e none is left refused = by e.kind refused.1
  where
    by : (kind : ErrorKindValue) → IsRefusedFor table_rules s event exists kind m → said_core t ≡ old
    by FullKind h = back_again s m t old (Answer None) none is left (rw h.1 refl) (ap (λ (k : Core Marks). k.cache) h.1)
    by MemoryKind (room, grows, same, begun) =
        back_again s m t old (calls_of s.state event exists) none is left same begun
    by kind h = absurd h

-- .. and is refused for the same reason
pub refused_said : (s m t : Core Marks) (old : Core Numbers) (event : EventValue) (exists : Bool) (e : ErrorValue) →
    IsNoneGone s.cache → said_core s ≡ old → t ≡ with_table m (restored m.cache) →
    IsRefused table_rules s event exists e m → IsRefused said_numbers old event exists e (said_core t)
refused_said s m t old event exists e none is left refused =
    (refused.0, by e.kind refused.1 (said_core t) (refused_back s m t old event exists e none is left refused))
  where
    by : (kind : ErrorKindValue) → IsRefusedFor table_rules s event exists kind m → (u : Core Numbers) → u ≡ old →
        IsRefusedFor said_numbers old event exists kind u
    by FullKind h u back = (ap (λ (k : Core Numbers). k.state.taken) (sym is) ∙ h.0, back)
    by MemoryKind (room, grows, same, begun) u back = rw (back, ← is)
        (room, grows, refl, begins-none said_numbers (calls_of s.state event exists) (numbers_of s.cache))
    by kind h u back = absurd h

-- roots that have changed, once what the change took out is dropped
rerooted_said : (s m t : Core Marks) (old : Core Numbers) (plan : Plan) (roots : Roots) → IsSaid plan →
    IsNoneGone s.cache → said_core s ≡ old → t ≡ with_table m (settled m.cache) →
    IsRerooted table_rules s plan roots m → IsRerooted said_numbers old plan roots (said_core t)
rerooted_said s m t old plan roots said none is left (same, made) = rw (← is, left)
    (ap (λ (k : Core Marks). said_core (with_table k (settled m.cache))) same, said s.cache None m.cache none made)

-- a path that becomes a root
pub rooted_said : (s m t : Core Marks) (old : Core Numbers) (path : PathValue) (mode : RecursiveMode) →
    IsNoneGone s.cache → said_core s ≡ old → t ≡ with_table m (settled m.cache) →
    IsRooted table_rules s path mode m → IsRooted said_numbers old path mode (said_core t)
rooted_said s m t old path mode none is left rooted =
    let roots = s.state.roots in
    rw (← is) (rerooted_said s m t (said_core s) (root_calls roots path mode) (with_root roots path mode)
    (said-root roots path mode) none refl left rooted)

-- a path that is a root no longer
pub unrooted_said : (s m t : Core Marks) (old : Core Numbers) (path : PathValue) → IsNoneGone s.cache →
    said_core s ≡ old → t ≡ with_table m (settled m.cache) → IsUnrooted table_rules s path m →
    IsUnrooted said_numbers old path (said_core t)
unrooted_said s m t old path none is left unrooted =
    rw (← is) (rerooted_said s m t (said_core s) (unroot_calls path) (without_roots s.state.roots path)
    (said-unroot path) none refl left unrooted)

-- a root that is refused leaves all
pub root_back : (s m t : Core Marks) (old : Core Numbers) (path : PathValue) (mode : RecursiveMode) (e : ErrorValue) →
    IsNoneGone s.cache → said_core s ≡ old → t ≡ with_table m (restored m.cache) →
    IsRootRefused table_rules s path mode e m → said_core t ≡ old
root_back s m t old path mode e none is left (memory, new, begun) =
    back_again s m t old (root_calls s.state.roots path mode) none is left begun.0 begun.1

-- .. and is refused for the same reason
pub root_said : (s m t : Core Marks) (old : Core Numbers) (path : PathValue) (mode : RecursiveMode) (e : ErrorValue) →
    IsNoneGone s.cache → said_core s ≡ old → t ≡ with_table m (restored m.cache) →
    IsRootRefused table_rules s path mode e m → IsRootRefused said_numbers old path mode e (said_core t)
root_said s m t old path mode e none is left refused =
    by (said_core t) (root_back s m t old path mode e none is left refused)
  where
    by : (u : Core Numbers) → u ≡ old → IsRootRefused said_numbers old path mode e u
    by u back = rw (back, ← is) (
      refused.0,
      refused.1,
      (refl, begins-none said_numbers (root_calls s.state.roots path mode) (numbers_of s.cache)),
    )

-- a number that is said, while the table is out of the core
pub set_said : {T E : Type 0} (r : Result T E) (s a b : Core Marks) (out table new : Marks) (old : Core Numbers)
    (path : PathValue) (id : FileId) → table ≡ s.cache → a ≡ with_table s out → b ≡ with_table a new →
    said_core s ≡ old → OnOk r (new ≡ with_mark table path id) →
    OnOk r (said_core b ≡ with_numbers old (with_number old.cache path id))
set_said (Ok x) s a b out table new old path id was first last is ok =
    rw (← is, last, first, ok, was) (ap (with_numbers (said_core s)) (numbers_of-insert s.cache path id))
set_said (Err x) s a b out table new old path id was first last is ok = tt

-- numbers that are forgotten, while the table is out of the core
pub forget_said : (s a b : Core Marks) (out table gone new : Marks) (old : Core Numbers) (path : PathValue) →
    IsNoneGone s.cache → table ≡ s.cache → gone ≡ marked path table → new ≡ settled gone → a ≡ with_table s out →
    b ≡ with_table a new → said_core s ≡ old → said_core b ≡ with_numbers old (without_numbers old.cache path)
forget_said s a b out table gone new old path none was taken left first last is =
    rw (← is, last, first, left, taken, was) (ap (with_numbers (said_core s)) (settled-marked path s.cache none))
