-- Worked cases of raised moments and moved queues, by evaluation.
use Rattle.std.proofs.Common.{◌≡◌, ℕ, false, List, [], ◌∷◌, refl, Some, None}
use Rattle.std.specs.Prelude.{codes}
use Rattle.notify_types.specs.Event.{Timed, AttributesValue, no_attributes}
use Rattle.notify_paths.specs.Path.{PathValue, RootPart, NamePart}
use Rattle.notify_types.specs.declared.kind.EventKind.{EventKind}
use Rattle.notify_types.specs.declared.kind.EventKind.TheVariants.{Create, Modify, Other}
use Rattle.notify_types.specs.declared.kind.CreateKind.TheVariants as create
use Rattle.notify_types.specs.declared.kind.ModifyKind.TheVariants as modify
use Rattle.notify_types.specs.declared.kind.RenameMode.TheVariants as rename
use Rattle.debounce_model.specs.Queues.{Queues}
use Rattle.debounce_model.specs.State.{State, empty_state}
use Rattle.debounce_model.specs.Table.{event_step}
use Rattle.debounce_model.specs.Tick.{ticked_state, state_places, is_expired_in}

-- a path of one name
abbrev at1 : List ℕ → PathValue
at1 a = RootPart ∷ NamePart a ∷ []

-- a path of two names
abbrev at2 : List ℕ → List ℕ → PathValue
at2 a b = RootPart ∷ NamePart a ∷ NamePart b ∷ []

-- attributes with this tracker alone
abbrev tracked : ℕ → AttributesValue
tracked n = record { tracker = Some n; flag = None; info = None; source = None; process_id = None }

-- an event of this kind at these paths
abbrev ev : EventKind → List PathValue → AttributesValue → ℕ → Timed
ev k ps a n = record { event = record { kind = k; paths = ps; attrs = a }; time = n }

-- the first half of a rename
abbrev from : PathValue → ℕ → ℕ → Timed
from p t n = ev (Modify (modify.Name rename.From)) (p ∷ []) (tracked t) n

-- the second half of a rename
abbrev to : PathValue → ℕ → ℕ → Timed
to p t n = ev (Modify (modify.Name rename.To)) (p ∷ []) (tracked t) n

-- a joined rename
abbrev both : PathValue → PathValue → ℕ → ℕ → Timed
both p q t n = ev (Modify (modify.Name rename.Both)) (p ∷ q ∷ []) (tracked t) n

-- a file is created
abbrev made : PathValue → ℕ → Timed
made p n = ev (Create create.File) (p ∷ []) no_attributes n

-- a folder is created
abbrev folder : PathValue → ℕ → Timed
folder p n = ev (Create create.Folder) (p ∷ []) no_attributes n

-- something is modified
abbrev changed : PathValue → ℕ → Timed
changed p n = ev (Modify modify.Any) (p ∷ []) no_attributes n

-- a state after these events, of paths that do not exist
abbrev taken : State → List Timed → State
taken s [] = s
taken s (x ∷ xs) = taken (event_step s x.event x.time false None) xs

-- what waits after these events
abbrev all_of : List Timed → Queues
all_of xs = (taken (empty_state 50) xs).queues

-- a file that waits below a renamed folder goes along
creation_goes_along : all_of (made (at2 (codes "d") (codes "x")) 0 ∷ from (at1 (codes "d")) 1 1 ∷ to
    (at1 (codes "e")) 1 2 ∷ [])
    ≡ (at1 (codes "e"), both (at1 (codes "d")) (at1 (codes "e")) 1 1 ∷ []) ∷ (
      at2 (codes "e") (codes "x"),
      made (at2 (codes "e") (codes "x")) 1 ∷ [],
    ) ∷ []
creation_goes_along = refl

-- what waits below the new path is dropped
target_below_is_dropped : all_of (changed (at2 (codes "e") (codes "y")) 0 ∷ made (at2 (codes "d") (codes "x"))
    1 ∷ from (at1 (codes "d")) 1 2 ∷ to (at1 (codes "e")) 1 3 ∷ [])
    ≡ (at1 (codes "e"), both (at1 (codes "d")) (at1 (codes "e")) 1 2 ∷ []) ∷ (
      at2 (codes "e") (codes "x"),
      made (at2 (codes "e") (codes "x")) 2 ∷ [],
    ) ∷ []
target_below_is_dropped = refl

-- of a joined rename below the folder both paths go along
joined_rename_goes_along : all_of (from (at2 (codes "d") (codes "a")) 1 0 ∷ to (at2 (codes "d") (codes "b")) 1
    1 ∷ from (at1 (codes "d")) 2 2 ∷ to (at1 (codes "e")) 2 3 ∷ [])
    ≡ (at1 (codes "e"), both (at1 (codes "d")) (at1 (codes "e")) 2 2 ∷ []) ∷ (
      at2 (codes "e") (codes "b"),
      both (at2 (codes "e") (codes "a")) (at2 (codes "e") (codes "b")) 1 2 ∷ [],
    ) ∷ []
joined_rename_goes_along = refl

-- below a folder that is renamed into itself nothing moves
folder_into_itself : all_of (made (at2 (codes "d") (codes "x")) 0 ∷ from (at1 (codes "d")) 1 1 ∷ to
    (at2 (codes "d") (codes "e")) 1 2 ∷ [])
    ≡ (at2 (codes "d") (codes "e"), both (at1 (codes "d")) (at2 (codes "d") (codes "e")) 1 1 ∷ []) ∷ (
      at2
          (codes "d") (codes "x"),
      made (at2 (codes "d") (codes "x")) 0 ∷ [],
    ) ∷ []
folder_into_itself = refl

-- a path that only has the folder as its text's beginning stays
path_by_text_stays : all_of (made (at2 (codes "ab") (codes "x")) 0 ∷ from (at1 (codes "a")) 1 1 ∷ to
    (at1 (codes "c")) 1 2 ∷ [])
    ≡ (at2 (codes "ab") (codes "x"), made (at2 (codes "ab") (codes "x")) 0 ∷ []) ∷ (
      at1 (codes "c"),
      both (at1 (codes "a")) (at1 (codes "c")) 1 1 ∷ [],
    ) ∷ []
path_by_text_stays = refl

-- an event that goes along is no older than the rename
time_is_raised : all_of (folder (at1 (codes "d")) 0 ∷ made (at2 (codes "d") (codes "x")) 5 ∷ from
    (at1 (codes "d")) 1 6 ∷ to (at1 (codes "e")) 1 7 ∷ [])
    ≡ (at1 (codes "e"), folder (at1 (codes "e")) 0 ∷ []) ∷ (
      at2 (codes "e") (codes "x"),
      made (at2 (codes "e") (codes "x")) 6 ∷ [],
    ) ∷ []
time_is_raised = refl

-- an event that is ignored
abbrev other : List ℕ → ℕ → Timed
other a n = ev Other (at1 a ∷ []) no_attributes n

-- something is created
abbrev any : List ℕ → ℕ → Timed
any a n = ev (Create create.Any) (at1 a ∷ []) no_attributes n

-- a tick at 100, an event at 20, a tick at 60, and an ignored event at 150
abbrev after_early_events : State
after_early_events =
    taken (ticked_state (taken (ticked_state (empty_state 50) 100 []) (any (codes "a") 20 ∷ [])) 60 [])
    (other (codes "q") 150 ∷ [])

-- an event and a tick that come early are taken at the latest moment: an ignored event raised it
raised_by_an_ignored_event : state_places (is_expired_in after_early_events 70) after_early_events
    ≡ any (codes "a") 100 ∷ []
raised_by_an_ignored_event = refl

-- .. at 60 nothing is due, since the first tick came at 100
early_tick_hands_out_nothing : state_places
    (is_expired_in (taken (ticked_state (empty_state 50) 100 []) (any (codes "a") 20 ∷ [])) 60)
    (taken (ticked_state (empty_state 50) 100 []) (any (codes "a") 20 ∷ [])) ≡ []
early_tick_hands_out_nothing = refl

-- .. a tick at 70 leaves the latest moment
tick_keeps_the_latest : (ticked_state after_early_events 70 (any (codes "a") 100 ∷ [])).latest ≡ 150
tick_keeps_the_latest = refl

-- an ignored event at 30, and an event at 10
abbrev after_an_ignored_event : State
after_an_ignored_event = taken (empty_state 50) (other (codes "q") 30 ∷ any (codes "a") 10 ∷ [])

-- an event that comes early waits from the raised moment on
waits_from_the_raised_moment : state_places (is_expired_in after_an_ignored_event 79) after_an_ignored_event ≡ []
waits_from_the_raised_moment = refl

-- .. and no longer than that
waits_from_the_raised_moment_due : state_places (is_expired_in after_an_ignored_event 80) after_an_ignored_event
    ≡ any (codes "a") 30 ∷ []
waits_from_the_raised_moment_due = refl
