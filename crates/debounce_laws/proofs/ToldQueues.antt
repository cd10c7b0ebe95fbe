-- Queues whose events each told something at the queue's path: what stands for a change in one, and what keeps them so.
use Rattle.std.proofs.Common.{◌≡◌, Bool, true, false, cond, ◌||◌, List, [], ◌∷◌, refl, sym, subst, is_some, true≢false}
use Rattle.std.specs.List.{list_any, AllByRecursion}
use Rattle.notify_types.specs.Event.{Timed}
use Rattle.notify_types.specs.KindNumbers.{kind_eq, kind_eq_decides}
use Rattle.notify_types.specs.Kinds.{is_creation, is_removal, is_plain}
use Rattle.notify_paths.specs.Path.{PathValue, path_eq}
use Rattle.notify_types.specs.declared.kind.EventKind.{EventKind}
use Rattle.notify_types.specs.declared.kind.EventKind.TheVariants as kinds
use Rattle.notify_types.specs.declared.kind.ModifyKind.TheVariants as modify
use Rattle.notify_types.specs.declared.kind.RenameMode.TheVariants as rename
use Rattle.debounce_model.specs.Due.{last_of_kind, rests}
use Rattle.debounce_model.specs.Kept.{has_first, stands_for, is_among}
use Rattle.debounce_model.specs.Queues.{Queues, waiting_in, creates, was_created, push, removal}
use Rattle.debounce_laws.proofs.DueLists.{each_push, each_late}
use Rattle.debounce_laws.proofs.EachQueue.{Each, each-push, each-removal, each-rests, each-none}

-- a kind of class creation, removal or plain
abbrev pub tells : EventKind → Bool
tells k = is_creation k || (is_removal k || is_plain k)

-- an event without a flag that told this path first, in one of these classes
pub record IsTold (path : PathValue) (x : Timed) : Type 0 where
  pub unflagged : is_some x.event.attrs.flag ≡ false
  pub class : tells x.event.kind ≡ true
  pub first : has_first (λ p. path_eq p path) x.event.paths ≡ true

-- each event of a queue told its path
abbrev pub AreTold : PathValue → List Timed → Type 0
AreTold path events = AllByRecursion (IsTold path) events

-- .. of each queue
abbrev pub AreAllTold : Queues → Type 0
AreAllTold queues = Each AreTold queues

-- a kind that stands for a change of another kind
abbrev fits : EventKind → EventKind → Bool
fits kind k = is_creation k || kind_eq kind k

-- whatever comes first, a test or true is true
pub or_true : (a : Bool) → (a || true) ≡ true
or_true true = refl
or_true false = refl

-- a kind that told something, after which its path is there, is a creation
pub creates_told : (k : EventKind) → tells k ≡ true → creates k ≡ true → is_creation k ≡ true
creates_told (kinds.Modify (modify.Name rename.To)) t c = t
creates_told k t c = c

module _ (path : PathValue) (kind : EventKind) where
  -- an event that told something stands for a change by its kind
  pub stands : (x : Timed) → IsTold path x → fits kind x.event.kind ≡ true → stands_for kind x ≡ true
  stands x t h = rw t.unflagged h

  -- what was created holds a creation
  pub created_holds : (xs : List Timed) → AreTold path xs → was_created xs ≡ true →
      list_any (stands_for kind) xs ≡ true
  created_holds [] t h = absurd (true≢false (sym h))
  created_holds (x ∷ xs) t h = rw (stands x t.0 (rw (creates_told x.event.kind t.0.class h) refl)) refl

  -- of a kind that stands for a change also each event of that kind does
  same_kind : (k : EventKind) (xs : List Timed) → AreTold path xs → fits kind k ≡ true →
      list_any (λ y. kind_eq k y.event.kind) xs ≡ true → list_any (stands_for kind) xs ≡ true
  same_kind k [] t f h = absurd (true≢false (sym h))
  same_kind k (x ∷ xs) t f h = by (kind_eq k x.event.kind) refl (same_kind k xs t.1 f)
    where
      by : (b : Bool) → kind_eq k x.event.kind ≡ b → (list_any (λ y. kind_eq k y.event.kind) xs ≡ true →
          list_any (stands_for kind) xs ≡ true) → list_any (stands_for kind) (x ∷ xs) ≡ true
      by true e more =
          rw (stands x t.0 (subst (λ j. fits kind j ≡ true) ((kind_eq_decides k x.event.kind).0 e) f)) refl
      by false e more = rw (more (rw e at h)) (or_true (stands_for kind x))

  -- what stands for a change is still among the last of each kind
  pub last_among : (xs : List Timed) → AreTold path xs → list_any (stands_for kind) xs ≡ true →
      is_among path kind (last_of_kind xs) ≡ true
  last_among [] t h = h
  last_among (x ∷ xs) t h = by (list_any (λ y. kind_eq x.event.kind y.event.kind) xs) (stands_for kind x) refl
      refl (last_among xs t.1)
    where
      by : (b c : Bool) → list_any (λ y. kind_eq x.event.kind y.event.kind) xs ≡ b → stands_for kind x ≡ c →
          (list_any (stands_for kind) xs ≡ true → is_among path kind (last_of_kind xs) ≡ true) →
          is_among path kind (cond b (last_of_kind xs) (x ∷ last_of_kind xs)) ≡ true
      by true true e s more = more (same_kind x.event.kind xs t.1 (rw t.0.unflagged at s) e)
      by true false e s more = more (rw s at h)
      by false true e s more = rw (t.0.first, s) refl
      by false false e s more = rw (more (rw s at h)) (or_true _)

-- .. after a push
pub told-push : (queues : Queues) (p : PathValue) (x : Timed) → AreAllTold queues → IsTold p x →
    AreAllTold (push queues p x)
told-push queues p x t h = each-push AreTold queues p x t tt (λ q a. each_push (IsTold p) q x a h)

-- .. after a removal
pub told-removal : (queues : Queues) (p : PathValue) (x : Timed) → AreAllTold queues → IsTold p x →
    AreAllTold (removal queues p x)
told-removal queues p x t h = each-removal AreTold queues p x t (h, tt)

-- .. after a tick
pub told-rests : (due : Timed → Bool) (queues : Queues) → AreAllTold queues → AreAllTold (rests due queues)
told-rests due queues t = each-rests AreTold due queues (λ p q a. each_late due (IsTold p) q a) t

-- .. where nothing waits
pub told-none : (queues : Queues) → waiting_in queues ≡ 0 → AreAllTold queues
told-none queues h = each-none AreTold queues (λ p. tt) h
