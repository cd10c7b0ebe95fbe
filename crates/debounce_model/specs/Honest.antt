-- Honest streams: a creation names what is absent, a removal what is there, and nothing is renamed.
use Rattle.std.specs.Prelude.{◌≡◌, Bool, true, false, not, ◌&&◌, List, [], ◌∷◌, map, is_some, if◌then◌else◌}
use Rattle.std.specs.List.{list_all}
use Rattle.notify_types.specs.Event.{EventValue}
use Rattle.notify_types.specs.Kinds.{is_creation, is_removal, is_rename}
use Rattle.notify_paths.specs.Path.{PathValue}
use Rattle.notify_types.specs.declared.kind.EventKind.{EventKind}
use Rattle.debounce_model.specs.Command.{CommandValue, ReplyValue}
use Rattle.debounce_model.specs.Play.{Paths, has_path, accepted, play_one}

-- the nonempty proper prefixes of a path
abbrev pub folders_of : PathValue → List PathValue
folders_of [] = []
folders_of (part ∷ []) = []
folders_of (part ∷ next ∷ parts) = (part ∷ []) ∷ map (λ folder. part ∷ folder) (folders_of (next ∷ parts))

-- the folders of the path are in the set
abbrev pub has_folders : Paths → PathValue → Bool
has_folders paths path = list_all (has_path paths) (folders_of path)

-- a set is closed if it holds the folders of each of its paths
abbrev pub is_closed : Paths → Bool
is_closed paths = list_all (has_folders paths) paths

-- a creation's path is absent and its folders are there; a removal's path is there; a rename is not honest
abbrev pub is_honest_at : Paths → EventKind → PathValue → Bool
is_honest_at paths kind path =
    if is_creation kind then not (has_path paths path) && has_folders paths path
    else (if is_removal kind then has_path paths path
    else not (is_rename kind))

-- an event names exactly one path, which is not empty
abbrev pub is_honest_with : Paths → EventKind → List PathValue → Bool
is_honest_with paths kind ((part ∷ parts) ∷ []) = is_honest_at paths kind (part ∷ parts)
is_honest_with paths kind others = false

-- an event without the Rescan flag that is honest if these are the raw paths so far
abbrev pub is_honest_event : Paths → EventValue → Bool
is_honest_event paths event = not (is_some event.attrs.flag) && is_honest_with paths event.kind event.paths

-- the events are honest one after the other
abbrev pub are_honest : Paths → List EventValue → Bool
are_honest paths [] = true
are_honest paths (event ∷ events) = is_honest_event paths event && are_honest (play_one paths event) events

-- an honest stream: the set is closed, and the accepted events are honest from it on
pub record IsHonest (paths : Paths) (commands : List CommandValue) (replies : List ReplyValue) : Type 0 where
  pub closed : is_closed paths ≡ true
  pub events : are_honest paths (accepted commands replies) ≡ true
