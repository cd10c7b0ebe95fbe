-- The rename slot holds the last rename that was accepted, so a second half that fits it is matched with it.
use Rattle.std.proofs.Common.{◌≡◌, ℕ, Bool, true, false, cond, not, ◌&&◌, List, [], ◌∷◌, ◌++◌, refl, ap, ◌∙◌, Option, Some, None, is_some, append_assoc}
use Rattle.std.proofs.lemmas.List.{append-nil}
use Rattle.notify_types.specs.Event.{first_of, EventValue, Timed}
use Rattle.notify_types.specs.Kinds.{is_rename}
use Rattle.notify_paths.specs.Path.{PathValue}
use Rattle.notify_types.specs.declared.kind.EventKind.{EventKind}
use Rattle.notify_types.specs.declared.kind.EventKind.TheVariants as kinds
use Rattle.notify_types.specs.declared.kind.ModifyKind.TheVariants as modify
use Rattle.notify_types.specs.declared.kind.RenameMode.TheVariants as rename
use Rattle.debounce_model.specs.declared.case.Case.{Case}
use Rattle.debounce_model.specs.declared.case.Case.TheVariants.{Rescan, Creation, Removal, RenameFrom, RenameTo, Plain, Ignored}
use Rattle.debounce_model.specs.declared.file_id.FileId.{FileId}
use Rattle.debounce_model.specs.Founded.{AcceptedEvent, renames, Matched}
use Rattle.debounce_model.specs.Kept.{tells_rename, has_first}
use Rattle.debounce_model.specs.RenameSlot.{SlotValue, fits, half_of, first_half}
use Rattle.debounce_model.specs.State.{State}
use Rattle.debounce_model.specs.Table.{kind_case, case_of, row, unflagged_case, taken_step}
use Rattle.debounce_model.specs.WellFormed.{IsFirst}
use Rattle.debounce_laws.proofs.FoundedGrows.{renames-more}

-- the case of a half of a rename
abbrev is_half_case : Case → Bool
is_half_case RenameFrom = true
is_half_case RenameTo = true
is_half_case case = false

-- a kind of class rename has such a case
half_kind : (k : EventKind) (exists : Bool) → is_rename k ≡ is_half_case (kind_case k exists)
half_kind (kinds.Modify (modify.Name rename.Any)) true = refl
half_kind (kinds.Modify (modify.Name rename.Any)) false = refl
half_kind k exists = refl

-- an event is a rename if its case is that of a half
rename_by_case : (e : EventValue) (exists : Bool) → tells_rename e ≡ is_half_case (case_of e exists)
rename_by_case e exists = by (is_some e.attrs.flag) e.paths
  where
    and_true : (b : Bool) → (b && true) ≡ b
    and_true true = refl
    and_true false = refl

    and_false : (b : Bool) → (b && false) ≡ false
    and_false true = refl
    and_false false = refl

    by : (b : Bool) (ps : List PathValue) → (not b && (is_rename e.kind && has_first (λ path. true) ps))
        ≡ is_half_case (cond b Rescan (unflagged_case e.kind ps exists))
    by true ps = refl
    by false [] = and_false (is_rename e.kind)
    by false (p ∷ ps) = and_true (is_rename e.kind) ∙ half_kind e.kind exists

-- a slot that is filled holds the last rename, which was taken as a first half
abbrev pub IsLast : List AcceptedEvent → Option SlotValue → Type 0
IsLast history None = Unit {0}
IsLast history (Some slot) =
    (earlier : List AcceptedEvent) × (exists : Bool)
    × (renames history ≡ earlier ++ record {
      event = slot.half.event;
      exists = exists;
      answer =
          slot.number;
    } ∷ [])
    × (case_of slot.half.event exists ≡ RenameFrom)

module _ (history : List AcceptedEvent) (a : AcceptedEvent) where
  -- the renames with one more event
  renames-next : (b : Bool) → tells_rename a.event ≡ b → renames (history ++ a ∷ []) ≡ renames history
      ++ cond b (a ∷ []) []
  renames-next b h = renames-more history (a ∷ []) ∙ ap (λ c. renames history ++ cond c (a ∷ []) []) h

  -- an event that is no rename leaves the slot as it was
  last-same : (slot : Option SlotValue) → tells_rename a.event ≡ false → IsLast history slot →
      IsLast (history ++ a ∷ []) slot
  last-same None h l = tt
  last-same (Some slot) h (earlier, exists, is, case) =
      (earlier, exists, renames-next false h ∙ append-nil (renames history) ∙ is, case)

-- after each event the slot still holds the last rename, if any
pub last-after : (history : List AcceptedEvent) (s : State) (x : Timed) (exists : Bool)
    (answer : Option FileId) → IsLast history s.rename_slot →
    IsLast (history ++ record { event = x.event; exists = exists; answer = answer } ∷ [])
    (taken_step s x exists answer).rename_slot
last-after history s x exists answer l = at (case_of x.event exists) refl (rename_by_case x.event exists)
  where
    a : AcceptedEvent
    a = record { event = x.event; exists = exists; answer = answer }

    at : (c : Case) → case_of x.event exists ≡ c → tells_rename x.event ≡ is_half_case c →
        IsLast (history ++ a ∷ []) (row c s x (first_of x.event.paths) answer).rename_slot
    at Rescan c h = last-same history a s.rename_slot h l
    at Creation c h = last-same history a s.rename_slot h l
    at Removal c h = last-same history a s.rename_slot h l
    at RenameFrom c h = (renames history, exists, renames-next history a true h, c)
    at RenameTo c h = tt
    at Plain c h = last-same history a s.rename_slot h l
    at Ignored c h = last-same history a s.rename_slot h l

-- the path of a first half, where there is one
abbrev path_of : Option (PathValue × ℕ) → PathValue
path_of None = []
path_of (Some (f, time)) = f

-- a second half that fits the slot is matched with the first
pub half_matched : (history : List AcceptedEvent) (slot : Option SlotValue) (e : EventValue) (exists : Bool)
    (answer : Option FileId) (f t : PathValue) (time : ℕ) → IsLast history slot → first_half slot e answer
    ≡ Some (f, time) → case_of e exists ≡ RenameTo → IsFirst t e.paths →
    Matched (history ++ record { event = e; exists = exists; answer = answer } ∷ []) f t
half_matched history None e exists answer f t time l h case first = cc
half_matched history (Some slot) e exists answer f t time (earlier, existed, is, from) h case first =
    by (fits slot e answer) slot.half.event.paths refl refl h
  where
    a : AcceptedEvent
    a = record { event = slot.half.event; exists = existed; answer = slot.number }

    b : AcceptedEvent
    b = record { event = e; exists = exists; answer = answer }

    by : (c : Bool) (qs : List PathValue) → fits slot e answer ≡ c → slot.half.event.paths ≡ qs →
        half_of c qs slot.half.time ≡ Some (f, time) → Matched (history ++ b ∷ []) f t
    by false qs k was h = cc
    by true [] k was h = cc
    by true (q ∷ qs) k was h =
        record {
          earlier = earlier;
          first = a;
          second = b;
          later = [];
          neighbours = renames-next history b true (rename_by_case e exists ∙ ap is_half_case case)
              ∙ ap (λ r. r ++ b ∷ []) is ∙ append_assoc earlier (a ∷ []) (b ∷ []);
          from = record { case = from; path = rw was (ap path_of h) };
          to = record { case = case; path = first };
          linked = k;
        }
