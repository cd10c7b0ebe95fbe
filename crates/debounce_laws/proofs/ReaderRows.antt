-- Worked rows of the paths law, by evaluation: an honest stream, what waits at its end, and what a reader has.
use Rattle.std.proofs.Common.{◌≡◌, true, false, List, [], ◌∷◌, refl, None}
use Rattle.std.specs.Prelude.{codes}
use Rattle.notify_types.specs.Event.{EventValue, no_attributes}
use Rattle.notify_paths.specs.Path.{PathValue, NamePart}
use Rattle.notify_types.specs.declared.kind.EventKind.{EventKind}
use Rattle.notify_types.specs.declared.kind.EventKind.TheVariants.{Create, Remove}
use Rattle.notify_types.specs.declared.kind.CreateKind.TheVariants as create
use Rattle.notify_types.specs.declared.kind.RemoveKind.TheVariants as remove
use Rattle.debounce_model.specs.Command.{CommandValue, EventCommand, TickCommand, ReplyValue, TakenReply, BatchReply}
use Rattle.debounce_model.specs.Honest.{are_honest, is_closed}
use Rattle.debounce_model.specs.PathsLaw.{read_paths}
use Rattle.debounce_model.specs.Play.{accepted, raw_paths}
use Rattle.debounce_model.specs.State.{State, empty_state}
use Rattle.debounce_model.specs.Table.{event_step}
use Rattle.debounce_model.specs.Tick.{ticked_state, state_places, is_expired_in}

-- a folder
abbrev d : PathValue
d = NamePart (codes "d") ∷ []

-- a file in it
abbrev x : PathValue
x = NamePart (codes "d") ∷ NamePart (codes "x") ∷ []

-- an event of this kind at this path
abbrev event : EventKind → PathValue → EventValue
event k p = record { kind = k; paths = p ∷ []; attrs = no_attributes }

-- the folder is created at 0, and the file at 5
abbrev begun : State
begun = event_step (event_step (empty_state 50) (event (Create create.Folder) d) 0 true None)
    (event (Create create.File) x) 5 true None

-- a tick at 50 hands out the folder
abbrev ticked : State
ticked = ticked_state begun 50 (state_places (is_expired_in begun 50) begun)

-- then the folder is removed at 40, which is taken at 50
abbrev removed : State
removed = event_step ticked (event (Remove remove.Any) d) 40 false None

-- the commands up to the tick, and more
abbrev first_commands : List CommandValue → List CommandValue
first_commands more =
    EventCommand (event (Create create.Folder) d) 0 true ∷ EventCommand (event (Create create.File) x) 5
    true ∷ TickCommand 50 ∷ more

-- .. the replies
abbrev first_replies : List ReplyValue → List ReplyValue
first_replies more =
    TakenReply None ∷ TakenReply None ∷ BatchReply (state_places (is_expired_in begun 50) begun) ∷ more

-- the stream is honest from no paths
honest : are_honest [] (accepted (first_commands (EventCommand (event (Remove remove.Any) d) 40 false ∷ []))
    (first_replies (TakenReply None ∷ []))) ≡ true
honest = refl

-- after the tick the file waits
file_waits : state_places (λ y. true) ticked ≡ record { event = event (Create create.File) x; time = 5 } ∷ []
file_waits = refl

-- .. and both paths are raw
both_raw : raw_paths [] (first_commands []) (first_replies []) ≡ d ∷ x ∷ []
both_raw = refl

-- .. and the reader has both
both_read : read_paths [] (first_replies []) (state_places (λ y. true) ticked) ≡ d ∷ x ∷ []
both_read = refl

-- after the removal it waits alone, at the raised moment
removal_waits : state_places (λ y. true) removed ≡ record { event = event (Remove remove.Any) d; time = 50 } ∷ []
removal_waits = refl

-- .. and the reader has neither
none_read : read_paths [] (first_replies (TakenReply None ∷ [])) (state_places (λ y. true) removed) ≡ []
none_read = refl

-- a second creation of the folder is not honest
not_honest : are_honest (d ∷ []) (event (Create create.Folder) d ∷ []) ≡ false
not_honest = refl

-- a file without its folder makes no closed set
not_closed : is_closed (x ∷ []) ≡ false
not_closed = refl
