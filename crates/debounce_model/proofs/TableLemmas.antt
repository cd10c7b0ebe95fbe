-- Laws of the step table: the case of an event by its first path, and what a case may change.
use Rattle.std.proofs.Common.{◌≡◌, ◌<◌, Bool, true, false, cond, List, [], ◌∷◌, length, refl, sym, Option, Some, None, is_some, true≢false, arith}
use Rattle.std.specs.Prelude.{slice_get}
use Rattle.notify_types.specs.Event.{Timed, first_of}
use Rattle.notify_paths.specs.Path.{PathValue}
use Rattle.notify_types.specs.declared.kind.EventKind.{EventKind}
use Rattle.notify_types.specs.declared.kind.EventKind.TheVariants.{Modify}
use Rattle.notify_types.specs.declared.kind.ModifyKind.TheVariants as modify
use Rattle.notify_types.specs.declared.kind.RenameMode.TheVariants as rename
use Rattle.debounce_model.specs.declared.case.Case.{Case}
use Rattle.debounce_model.specs.declared.case.Case.TheVariants.{Rescan, Creation, Removal, RenameFrom, RenameTo, Plain, Ignored}
use Rattle.debounce_model.specs.declared.file_id.FileId.{FileId}
use Rattle.debounce_model.specs.Rename.{is_both, is_both_kind}
use Rattle.debounce_model.specs.State.{State}
use Rattle.debounce_model.specs.Table.{kind_case, unflagged_case, case_of, FitsCase, row, taken_step}
use Rattle.debounce_model.specs.WellFormed.{IsFirst}

-- the first of some paths is the first that is found
pub first_of-found : (ps : List PathValue) (p : PathValue) → Some p ≡ slice_get ps 0 → first_of ps ≡ p
first_of-found [] p h = cc
first_of-found (q ∷ qs) p h = cc

-- where no first path is found, an event without a flag is ignored
pub unflagged-none : (k : EventKind) (ps : List PathValue) (exists : Bool) → slice_get ps 0 ≡ None →
    unflagged_case k ps exists ≡ Ignored
unflagged-none k [] exists h = refl
unflagged-none k (p ∷ ps) exists h = cc

-- where one is found, it has the case of its kind
pub unflagged-some : (k : EventKind) (ps : List PathValue) (exists : Bool) (p : PathValue) →
    Some p ≡ slice_get ps 0 → unflagged_case k ps exists ≡ kind_case k exists
unflagged-some k [] exists p h = cc
unflagged-some k (q ∷ ps) exists p h = refl

-- a case that may change the queues
abbrev pub acts : Case → Bool
acts Rescan = false
acts Ignored = false
acts case = true

-- a joined rename that comes in changes no queue
not_both : (k : EventKind) (exists : Bool) → acts (kind_case k exists) ≡ true → is_both_kind k ≡ false
not_both (Modify (modify.Name rename.Both)) exists h = absurd (true≢false (sym h))
not_both k exists h = refl

-- an event that may change the queues is no joined rename, and has a first path
pub acting_event : (x : Timed) (exists : Bool) → acts (case_of x.event exists) ≡ true → (is_both x ≡ false)
    × IsFirst (first_of x.event.paths) x.event.paths
acting_event x exists h = by (is_some x.event.attrs.flag) x.event.paths h
  where
    by : (b : Bool) (ps : List PathValue) → acts (cond b Rescan (unflagged_case x.event.kind ps exists))
        ≡ true → (is_both x ≡ false) × IsFirst (first_of ps) ps
    by true ps h = absurd (true≢false (sym h))
    by false [] h = absurd (true≢false (sym h))
    by false (p ∷ ps) h = (not_both x.event.kind exists h, refl)

-- there is a first path where there is a path
pub first_is : (ps : List PathValue) → 0 < length ps → IsFirst (first_of ps) ps
first_is [] h = absurd (omega (arith, h))
first_is (p ∷ ps) h = refl

-- paths with a first one are some
has_first : (ps : List PathValue) (p : PathValue) → IsFirst p ps → 0 < length ps
has_first [] p h = absurd h
has_first (q ∷ ps) p h = omega arith

-- each event fits its case
pub case_fits : (x : Timed) (exists : Bool) → FitsCase (case_of x.event exists) x.event
case_fits x exists = by (case_of x.event exists) (acting_event x exists)
  where
    fits : (is_both x ≡ false) × IsFirst (first_of x.event.paths) x.event.paths → (0 < length x.event.paths)
        × (is_both_kind x.event.kind ≡ false)
    fits h = (has_first x.event.paths (first_of x.event.paths) h.1, h.0)

    by : (c : Case) → (acts c ≡ true → (is_both x ≡ false) × IsFirst (first_of x.event.paths) x.event.paths) →
        FitsCase c x.event
    by Rescan h = tt
    by Creation h = fits (h refl)
    by Removal h = fits (h refl)
    by RenameFrom h = fits (h refl)
    by RenameTo h = fits (h refl)
    by Plain h = fits (h refl)
    by Ignored h = tt

-- no kind is a rescan
kind_stays : (k : EventKind) (exists : Bool) (s : State) (x : Timed) (path : PathValue)
    (answer : Option FileId) → (row (kind_case k exists) s x path answer).rescan_slot ≡ s.rescan_slot
kind_stays (Modify (modify.Name rename.Any)) true s x path answer = refl
kind_stays (Modify (modify.Name rename.Any)) false s x path answer = refl
kind_stays (Modify (modify.Name mode)) exists s x path answer = refl
kind_stays (Modify k) exists s x path answer = refl
kind_stays k exists s x path answer = refl

-- an event without a flag leaves the rescan slot
pub rescan_stays : (s : State) (x : Timed) (exists : Bool) (answer : Option FileId) → is_some x.event.attrs.flag
    ≡ false → (taken_step s x exists answer).rescan_slot ≡ s.rescan_slot
rescan_stays s x exists answer f = rw f (by x.event.paths)
  where
    by : (ps : List PathValue) →
        (row (unflagged_case x.event.kind ps exists) s x (first_of ps) answer).rescan_slot ≡ s.rescan_slot
    by [] = refl
    by (p ∷ ps) = kind_stays x.event.kind exists s x p answer
