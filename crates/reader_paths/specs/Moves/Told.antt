-- What the events with a tracker tell, while a batch is read. Only contracts of private functions cite these.
use Rattle.std.specs.Prelude.{◌≡◌, ℕ, Bool, true, false, ◌&&◌, List, [], ◌∷◌, Option, None, Some, unwrap_or, if◌then◌else◌}
use Rattle.std.specs.BTreeMap.{insert_entry, is_at}
use Rattle.std.specs.Map.{lookup}
use Rattle.std.specs.Option.{option_or}
use Rattle.std.specs.Ordering.{nat_cmp}
use Rattle.notify_paths.specs.Path.{PathValue, path_cmp, is_prefix}
use Rattle.notify_types.specs.Event.{EventValue}
use Rattle.notify_types.specs.Kinds.{is_creation, is_removal}
use Rattle.notify_types.specs.declared.kind.EventKind.{EventKind}
use Rattle.reader_paths.specs.Moves.{MoveValue, MovesValue, path_with, are_apart, source_by}

-- the first paths that were removed and created with a tracker, and whether these can be a move
pub record ToldValue : Type 0 where
  pub from : Option PathValue
  pub to : Option PathValue
  pub is_move : Bool

-- nothing was told yet
abbrev pub told_nothing : ToldValue
told_nothing = record { from = None; to = None; is_move = true }

-- one more path was removed, after this one, if there was one
abbrev pub told_removed : PathValue → Option PathValue → ToldValue → ToldValue
told_removed path None told = record told { from = Some path }
told_removed path (Some from) told = record told { is_move = false }

-- one more path was created, after this one, if there was one
abbrev pub told_created : PathValue → Option PathValue → ToldValue → ToldValue
told_created path None told = record told { to = Some path }
told_created path (Some to) told = record told { is_move = told.is_move && is_prefix to path }

-- an event of this kind came at the path
abbrev pub told_of : EventKind → PathValue → ToldValue → ToldValue
told_of kind path told =
    if is_removal kind then told_removed path told.from told
    else (if is_creation kind then told_created path told.to told else told)

-- these paths were removed, one after the other
abbrev pub with_removed : ToldValue → List PathValue → ToldValue
with_removed told [] = told
with_removed told (path ∷ paths) = with_removed (told_removed path told.from told) paths

-- these paths were created, one after the other
abbrev pub with_created : ToldValue → List PathValue → ToldValue
with_created told [] = told
with_created told (path ∷ paths) = with_created (told_created path told.to told) paths

-- what was told with the tracker after one more event
abbrev pub told_by : ℕ → ToldValue → EventValue → ToldValue
told_by tracker told event =
    with_created (with_removed told (path_with is_removal tracker event)) (path_with is_creation tracker event)

-- what was told with the tracker after the events
abbrev pub told_from : ℕ → ToldValue → List EventValue → ToldValue
told_from tracker told [] = told
told_from tracker told (event ∷ events) = told_from tracker (told_by tracker told event) events

-- what was told with the tracker, by this map
abbrev pub told_with : List (ℕ × ToldValue) → ℕ → ToldValue
told_with told tracker = unwrap_or (lookup (is_at (nat_cmp tracker)) told) told_nothing

-- the map has what the event adds
abbrev pub NotesEvent : List (ℕ × ToldValue) → EventValue → List (ℕ × ToldValue) → Type 0
NotesEvent old event new = (tracker : ℕ) → told_with new tracker ≡ told_by tracker (told_with old tracker) event

-- the map has what the events tell
abbrev pub IsTold : List EventValue → List (ℕ × ToldValue) → Type 0
IsTold events told = (tracker : ℕ) → told_with told tracker ≡ told_from tracker told_nothing events

-- the move that was told, if it is one
abbrev pub told_move : Option PathValue → Option PathValue → Bool → Option MoveValue
told_move (Some from) (Some to) is_move =
    if is_move && are_apart from to then Some (record { from = from; to = to }) else None
told_move from to is_move = None

-- the move that was told with a tracker
abbrev pub move_told : ToldValue → Option MoveValue
move_told told = told_move told.from told.to told.is_move

-- the moves with one more, if it is one
abbrev pub kept_with : MovesValue → ℕ → Option MoveValue → MovesValue
kept_with moves tracker None = moves
kept_with moves tracker (Some move) = insert_entry nat_cmp moves tracker move

-- the moves with those that were told, one after the other
abbrev pub kept_from : MovesValue → List (ℕ × ToldValue) → MovesValue
kept_from moves [] = moves
kept_from moves (entry ∷ told) = kept_from (kept_with moves entry.0 (move_told entry.1)) told

-- the sources have what the event tells
abbrev pub AddsSource : MovesValue → EventValue → List (PathValue × PathValue) → List (PathValue × PathValue) → Type 0
AddsSource moves event old new = (path : PathValue) → lookup (is_at (path_cmp path)) new
    ≡ option_or (source_by moves event path) (lookup (is_at (path_cmp path)) old)
